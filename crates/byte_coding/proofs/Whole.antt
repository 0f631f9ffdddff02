-- Demand 3 over bytes: the saved state's bytes and the encoded bytes after the first k samples, cut in any way between samples and
-- decoded by ways that fit, give the bytes of the samples back; also with the answers' numbers. Then the refusals that encoding and
-- decoding share. Assumes nothing.
use Rattle.std.specs.Prelude.{is_ok}
use mathlib.Core.Path.{◌≡◌, refl, sym, ap, ap₂, ◌∙◌}
use mathlib.Core.Bool.{Bool, true, false, cond}
use mathlib.Core.List.{List, [], ◌∷◌, ◌++◌, append_assoc}
use mathlib.Core.Logic.{◌≢◌}
use Prim.Native.Nat.{ℕ, ◌*◌, ◌/◌, ◌≤◌}
use native.Mathlib.Nat.{mul-le-mul_left}
use native.Mathlib.Omega.{arith}
use lib.ListN.{length, take, drop, take-append-drop}
use lib.Pow.{pow_pos}
use lib.Seq.{drop_at, length-take-le, take-append_seam, drop-append_seam}
use Rattle.kinds.specs.declared.Width.{Width}
use Rattle.kinds.specs.Answers.{Answer, Done, answer_number, when_done}
use Rattle.kinds.specs.Widths.{bits_of}
use Rattle.rule.specs.Configuration.{Config}
use Rattle.rule.specs.Prediction.{prediction}
use Rattle.rule.specs.Coding.{encoded_buffer}
use Rattle.rule.specs.Refusals.{encoding_refusal}
use Rattle.rule.proofs.Filling.{length_encoded}
use Rattle.rule.proofs.Passing.{encoding_passed}
use Rattle.rule.proofs.Sums.{Samples}
use Rattle.entries.specs.Entries.{is_entire}
use Rattle.entries.proofs.Bytes.{Bytes, take_bytes, drop_bytes}
use Rattle.entries.proofs.Lists as lists
use Rattle.calls.specs.declared.Way.{Way}
use Rattle.calls.specs.declared.Way.TheVariants.{General}
use Rattle.calls.specs.Encode as encoding
use Rattle.calls.specs.Decode as decoding
use Rattle.calls.specs.Pieces.{Asked, joined, decodings, outputs, final_state, Each, Fits, AllFit, numbered_decodings, numbered_outputs, numbered_state}
use Rattle.calls.proofs.Leaving as leaving
use Rattle.calls.proofs.Whole as calls
use Rattle.byte_coding.specs.Bytes.{samples_in, samples_bytes, ragged}
use Rattle.byte_coding.specs.Calls.{early, early_by, encode_laid, encode_bytes, decode_laid, decode_bytes}
use Rattle.byte_coding.specs.Pieces.{byte_decodings, numbered_byte_decodings, AllEntire}
use Rattle.sample.proofs.Sizes.{some_bytes, bytes_bits}
use Rattle.byte_coding.proofs.Lengths.{entire_length, ways_agree_in_bytes}
use Rattle.byte_coding.proofs.Coded.{front_entries}
use Rattle.byte_coding.proofs.Below.{append_samples, drop_samples, entries_samples, state_samples, encoded_samples}
use Rattle.byte_coding.proofs.Entire.{Divided, bytes_of_samples, samples_of_bytes, bytes_divided, encoded_bytes, decoded_bytes, encode_in_bytes, decode_in_bytes, done_even}

-- ---- the pieces: the samples in each, which are cut as the bytes are
abbrev in_samples : ℕ → List Asked → List Asked
in_samples W [] = []
in_samples W (a ∷ asked) = record { way = a.way; piece = samples_in W a.piece } ∷ in_samples W asked

abbrev AllDivided : ℕ → List Asked → Type 0
AllDivided W asked = Each (λ (a : Asked). Divided W a.piece) asked

samples_fit : (W : ℕ) (c : Config) (asked : List Asked) → AllFit c asked → AllFit c (in_samples W asked)
samples_fit W c [] fit = tt
samples_fit W c (a ∷ asked) fit = (fit.0, samples_fit W c asked fit.1)

pieces_divided : (W : ℕ) (asked : List Asked) → Bytes (joined asked) → AllEntire W asked → AllDivided W asked
pieces_divided W [] are entire = tt
pieces_divided W (a ∷ asked) are entire = (
  record { below = rw take-append_seam at (take_bytes (length a.piece) are); entire = entire.0 },
  pieces_divided W asked (rw drop-append_seam at (drop_bytes (length a.piece) are)) entire.1,
)

module _ (w : Width) where
  abbrev W : ℕ
  W = bits_of w

  joined_bytes : (asked : List Asked) → AllDivided W asked → samples_bytes W (joined (in_samples W asked)) ≡ joined asked
  joined_bytes [] parts = refl
  joined_bytes (a ∷ asked) parts =
      lists.bytes_append (W / 8) (samples_in W a.piece) (joined (in_samples W asked))
      ∙ ap₂ (λ (p q : List ℕ). p ++ q) (bytes_of_samples w parts.0) (joined_bytes asked parts.1)

  joined_samples : (asked : List Asked) → AllDivided W asked → Samples W (joined (in_samples W asked))
  joined_samples [] parts = record { below = λ i. pow_pos W }
  joined_samples (a ∷ asked) parts =
      append_samples W (samples_in W a.piece) (joined (in_samples W asked)) (entries_samples W (bytes_bits w refl) a.piece parts.0.below) (joined_samples asked parts.1)

  -- the bytes after the first k samples
  bytes_after : (k : ℕ) (xs : List ℕ) → k ≤ length xs → drop (W / 8 * k) (samples_bytes W xs) ≡ samples_bytes W (drop k xs)
  bytes_after k xs h =
      let long : length (samples_bytes W (take k xs)) ≡ W / 8 * k = lists.length_bytes_all (W / 8) (take k xs) ∙ ap (λ (m : ℕ). W / 8 * m) (length-take-le k xs h) in
      ap (λ (ys : List ℕ). drop (W / 8 * k) (samples_bytes W ys)) (sym (take-append-drop k xs))
      ∙ rw (lists.bytes_append (W / 8) (take k xs) (drop k xs)) (drop_at (samples_bytes W (take k xs)) (samples_bytes W (drop k xs)) (W / 8 * k) long)

  -- ---- the calls
  module _ (c : Config) (weights : List ℕ) (weighed : is_entire 4 weights ≡ true) where
    module _ (way : Way) (state piece : List ℕ) (samples : Samples W state) where
      call_in_bytes : Divided W piece → decode_bytes way W c (ragged W weights (samples_bytes W state) piece) (samples_bytes W state) piece
          ≡ decoded_bytes w (decoding.decode_by way W c state (samples_in W piece))
      call_in_bytes d =
          decode_in_bytes w c weights weighed (bytes_divided w state) d way
          ∙ ap (λ (xs : List ℕ). decoded_bytes w (decoding.decode_by way W c xs (samples_in W piece))) (samples_of_bytes w state samples)

      call_samples : Samples W (decoding.decode_by way W c state piece).state
      unfolding decoding.answered
      call_samples = go (is_ok (decoding.refusal_by way W c (length state))) refl
        where
          go : (t : Bool) → is_ok (decoding.refusal_by way W c (length state)) ≡ t → Samples W (decoding.decode_by way W c state piece).state
          go true e = rw e (state_samples W c.order (prediction W c) state piece samples)
          go false e = rw e samples

    -- from the bytes of a state on, what the calls give are the bytes of what the calls on the samples give
    bytes_done : (state : List ℕ) → Samples W state → (asked : List Asked) → AllDivided W asked
        → Each (λ (d : decoding.Decoded). d.said ≡ Done) (decodings W c state (in_samples W asked))
        → Each (λ (d : decoding.Decoded). d.said ≡ Done) (byte_decodings W c weights (samples_bytes W state) asked)
    bytes_done state samples [] parts each = tt
    bytes_done state samples (a ∷ asked) parts each =
        rw (call_in_bytes a.way state a.piece samples parts.0)
        (each.0, bytes_done (decoding.decode_by a.way W c state (samples_in W a.piece)).state (call_samples a.way state (samples_in W a.piece) samples) asked parts.1 each.1)

    bytes_given : (state : List ℕ) → Samples W state → (asked : List Asked) → AllDivided W asked
        → let ds = decodings W c state (in_samples W asked) in
        let bs = byte_decodings W c weights (samples_bytes W state) asked in
        outputs bs ++ final_state (samples_bytes W state) bs ≡ samples_bytes W (outputs ds ++ final_state state ds)
    bytes_given state samples [] parts = refl
    bytes_given state samples (a ∷ asked) parts =
        let d = decoding.decode_by a.way W c state (samples_in W a.piece) in
        rw (call_in_bytes a.way state a.piece samples parts.0, append_assoc (samples_bytes W d.piece), append_assoc d.piece, lists.bytes_append (W / 8) d.piece)
        (ap (λ (later : List ℕ). samples_bytes W d.piece ++ later) (bytes_given (decoding.decode_by a.way W c state (samples_in W a.piece)).state (call_samples a.way state (samples_in W a.piece) samples) asked parts.1))

    bytes_zero : (state : List ℕ) → Samples W state → (asked : List Asked) → AllDivided W asked
        → Each (λ (n : decoding.Numbered). n.number ≡ 0) (numbered_decodings W c state (in_samples W asked))
        → Each (λ (n : decoding.Numbered). n.number ≡ 0) (numbered_byte_decodings W c weights (samples_bytes W state) asked)
    bytes_zero state samples [] parts each = tt
    bytes_zero state samples (a ∷ asked) parts each =
        rw (call_in_bytes a.way state a.piece samples parts.0)
        (each.0, bytes_zero (decoding.decode_by a.way W c state (samples_in W a.piece)).state (call_samples a.way state (samples_in W a.piece) samples) asked parts.1 each.1)

    numbered_given : (state : List ℕ) → Samples W state → (asked : List Asked) → AllDivided W asked
        → let ns = numbered_decodings W c state (in_samples W asked) in
        let bs = numbered_byte_decodings W c weights (samples_bytes W state) asked in
        numbered_outputs bs ++ numbered_state (samples_bytes W state) bs ≡ samples_bytes W (numbered_outputs ns ++ numbered_state state ns)
    numbered_given state samples [] parts = refl
    numbered_given state samples (a ∷ asked) parts =
        let d = decoding.decode_by a.way W c state (samples_in W a.piece) in
        rw (call_in_bytes a.way state a.piece samples parts.0, append_assoc (samples_bytes W d.piece), append_assoc d.piece, lists.bytes_append (W / 8) d.piece)
        (ap (λ (later : List ℕ). samples_bytes W d.piece ++ later) (numbered_given (decoding.decode_by a.way W c state (samples_in W a.piece)).state (call_samples a.way state (samples_in W a.piece) samples) asked parts.1))

  -- ---- encoding, and then the calls
  module _ (c : Config) (weights samples state : List ℕ) (below : Bytes samples) (held : Bytes state) (asked : List Asked)
      (fit : AllFit c asked) (entire : AllEntire W asked)
    where
      abbrev in_bytes : encoding.Encoded
      in_bytes = encode_bytes W c (ragged W weights state samples) samples state

      abbrev xs : List ℕ
      xs = samples_in W samples

      abbrev lent : List ℕ
      lent = samples_in W state

      abbrev encoded : encoding.Encoded
      encoded = encoding.encode W c xs lent

      xs_below : Samples W xs
      xs_below = entries_samples W (bytes_bits w refl) samples below

      module _ (zero : (encoding.numbered in_bytes).number ≡ 0) (cut : joined asked ≡ drop (W / 8 * c.order) in_bytes.samples) where
        even : (is_entire 4 weights ≡ true) × (is_entire (W / 8) state ≡ true) × (is_entire (W / 8) samples ≡ true)
        even = done_even W c weights state samples zero

        divided : Divided W samples
        divided = record { below = below; entire = even.2 }

        encoded_bytes_lem : in_bytes ≡ encoded_bytes w encoded
        encoded_bytes_lem = encode_in_bytes w c weights even.0 divided (record { below = held; entire = even.1 })

        passed : is_ok (encoding_refusal W c (length lent) (length xs)) ≡ true
        passed = ap is_ok (sym (leaving.encode_said W c xs lent)) ∙ leaving.zero_ok _ (rw encoded_bytes_lem at zero)

        enough : c.order ≤ length xs
        enough = (encoding_passed W c (length lent) (length xs) passed).1

        abbrev buffer : List ℕ
        buffer = encoded_buffer W c.order (prediction W c) xs

        encoded_is : encoding.left (encoding_refusal W c (length lent) (length xs)) buffer (take c.order xs) ≡ encoded
        encoded_is = leaving.encode_done W c xs lent refl passed refl refl

        saved_below : Samples W encoded.state
        saved_below =
            let n = W / 8 in
            let room : n * c.order ≤ length samples
            = omega (arith, entire_length n (length samples) even.2, mul-le-mul_left n enough, ap (λ (m : ℕ). n * m) (lists.length_entries n samples)) in
            rw (← encoded_is, ← front_entries n (some_bytes w refl) samples c.order room)
            (entries_samples W (bytes_bits w refl) (take (n * c.order) samples) (take_bytes (n * c.order) below))

        parts : AllDivided W asked
        parts = pieces_divided W asked (rw (cut, encoded_bytes_lem) (drop_bytes (W / 8 * c.order) (bytes_divided w encoded.samples).below)) entire

        -- the samples in the pieces are the residuals after the first k
        residuals : joined (in_samples W asked) ≡ drop c.order encoded.samples
        residuals =
            let long : c.order ≤ length buffer = rw (length_encoded W c.order (prediction W c) xs) enough in
            rw (← encoded_is)
            (sym (samples_of_bytes w (joined (in_samples W asked)) (joined_samples asked parts))
            ∙ ap (samples_in W) (joined_bytes asked parts ∙ rw (encoded_bytes_lem, ← encoded_is) at cut ∙ bytes_after c.order buffer long)
            ∙ samples_of_bytes w (drop c.order buffer) (drop_samples W c.order buffer (encoded_samples W c.order (prediction W c) xs)))

      pub bytes_whole : let e = encode_bytes W c (ragged W weights state samples) samples state in
          e.said ≡ Done → joined asked ≡ drop (W / 8 * c.order) e.samples
          → let ds = byte_decodings W c weights e.state asked in
          Each (λ (d : decoding.Decoded). d.said ≡ Done) ds × (outputs ds ++ final_state e.state ds ≡ samples)
      bytes_whole said cut =
          let z = ap answer_number said in
          let e = encoded_bytes_lem z cut in
          let whole = calls.whole W c xs lent xs_below (in_samples W asked) (samples_fit W c asked fit) (rw e at said) (residuals z cut) in
          rw e (
            bytes_done c weights (even z cut).0 encoded.state (saved_below z cut) asked (parts z cut) whole.0,
            rw (bytes_given c weights (even z cut).0 encoded.state (saved_below z cut) asked (parts z cut), whole.1) (bytes_of_samples w (divided z cut)),
          )

      -- with the answers' numbers
      pub bytes_whole_numbered : let e = encoding.numbered (encode_bytes W c (ragged W weights state samples) samples state) in
          e.number ≡ 0 → joined asked ≡ drop (W / 8 * c.order) e.samples
          → let ns = numbered_byte_decodings W c weights e.state asked in
          Each (λ (n : decoding.Numbered). n.number ≡ 0) ns × (numbered_outputs ns ++ numbered_state e.state ns ≡ samples)
      bytes_whole_numbered z cut =
          let e = encoded_bytes_lem z cut in
          let whole = calls.whole_numbered W c xs lent xs_below (in_samples W asked) (samples_fit W c asked fit) (rw e at z) (residuals z cut) in
          rw e (
            bytes_zero c weights (even z cut).0 encoded.state (saved_below z cut) asked (parts z cut) whole.0,
            rw (numbered_given c weights (even z cut).0 encoded.state (saved_below z cut) asked (parts z cut), whole.1) (bytes_of_samples w (divided z cut)),
          )

-- ---- the refusals: where as much is ragged, and a state is given to decoding that is as long as the one lent to encoding, decoding gives
-- every answer of encoding's but 5
said_when : {A : Type 0} (said : A → Answer) (t d : Bool) (done refused first : A) → said done ≡ said refused
    → said (cond t (cond d done refused) first) ≡ cond t (said refused) (said first)
said_when said true true done refused first same = same
said_when said true false done refused first same = refl
said_when said false d done refused first same = refl

encode_says : (W : ℕ) (c : Config) (torn : Bool) (samples state : List ℕ) → (encode_bytes W c torn samples state).said
    ≡ when_done (early W c torn) (encoding.encode W c (samples_in W samples) (samples_in W state)).said (early W c torn)
unfolding encode_bytes encode_laid
encode_says W c torn samples state =
    let e = encoding.encode W c (samples_in W samples) (samples_in W state) in
    said_when (λ (e : encoding.Encoded). e.said) (is_ok (early W c torn)) (is_ok e.said)
    (encoding.left e.said (samples_bytes W e.samples) (samples_bytes W e.state)) (encoding.left e.said samples state)
    (encoding.left (early W c torn) samples state) refl

decode_says : (W : ℕ) (c : Config) (torn : Bool) (state piece : List ℕ) → (decode_bytes General W c torn state piece).said
    ≡ when_done (early W c torn) (decoding.decode W c (samples_in W state) (samples_in W piece)).said (early W c torn)
unfolding decode_bytes decode_laid early_by
decode_says W c torn state piece =
    let d = decoding.decode W c (samples_in W state) (samples_in W piece) in
    said_when (λ (d : decoding.Decoded). d.said) (is_ok (early W c torn)) (is_ok d.said)
    (decoding.left d.said (samples_bytes W d.state) (samples_bytes W d.piece)) (decoding.left d.said state piece)
    (decoding.left (early W c torn) state piece) refl

pub bytes_refused_alike : (W : ℕ) (c : Config) (torn : Bool) (samples lent : List ℕ) (way : Way) → Fits c way → (state piece : List ℕ) → length state ≡ length lent
    → (a : Answer) → answer_number a ≢ 5 → (encode_bytes W c torn samples lent).said ≡ a → (decode_bytes way W c torn state piece).said ≡ a
bytes_refused_alike W c torn samples lent way fits state piece same a other said =
    rw (ways_agree_in_bytes W c torn state piece way fits)
    (decode_says W c torn state piece ∙ go (is_ok (early W c torn)) (sym (encode_says W c torn samples lent) ∙ said))
  where
    count : length (samples_in W state) ≡ length (samples_in W lent)
    count = lists.length_entries (W / 8) state ∙ rw same (sym (lists.length_entries (W / 8) lent))

    go : (t : Bool) → cond t (encoding.encode W c (samples_in W samples) (samples_in W lent)).said (early W c torn) ≡ a
        → cond t (decoding.decode W c (samples_in W state) (samples_in W piece)).said (early W c torn) ≡ a
    go true said = calls.refused_alike W c (samples_in W samples) (samples_in W lent) General tt (samples_in W state) (samples_in W piece) count a other said
    go false said = said
