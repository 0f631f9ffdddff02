-- Encoding batch by batch, over the width W, the order k and any predictor p: o is what came, and l what is there now.
-- `Batched` holds before each batch, `batch` takes it through one, and `whole` is what it says at the end.
-- Assumes nothing.
use mathlib.Core.Path.{◌≡◌, refl, sym, ap, ap₂, ◌∙◌}
use mathlib.Core.Bool.{Bool, true, false, cond}
use mathlib.Core.List.{List, ◌++◌}
use Prim.Native.Nat.{ℕ, ◌+◌, ◌-◌, ◌%◌, ◌^◌, ◌≤◌, ◌<◌, min}
use native.Mathlib.Nat.{not-suc-le-zero, add-mod_right, le_of_eq, le_trans}
use native.Mathlib.Omega.{arith}
use borrow.Author.Tests.{lt-ltb, le-ltb, ltb-true, ltb-false}
use borrow.Rule.Slice.PartMut.{put_mid, same_len_mid}
use lib.Dec.{ltb}
use lib.ListN.{length, get_or, take, drop, length-append, length-take, length-drop, get_or-append}
use lib.Seq.{length-take-le, take_all, drop-drop, get_or-take, get_or-drop, ext_get_or}
use Rattle.rule.specs.Numbers.{centre}
use Rattle.rule.specs.Coding.{tabulate, window, toggled, residual, coded_at, encoded_buffer}
use Rattle.rule.proofs.Filling.{length-tabulate, get_d_tabulate}
use Rattle.rule.proofs.Parts as parts
use Rattle.rule.proofs.Windows.{drop_same}

-- what is taken off at place i: nothing in the first k places, which come out as sample + MID
unfoldable pub offset : ℕ → (List ℕ → ℕ) → List ℕ → ℕ → ℕ
offset k p o i = cond (ltb i k) 0 (p (window k i o))

-- the first `start` places of l are coded, the others are as they came, and what was predicted ahead is held
pub record Batched (W k : ℕ) (p : List ℕ → ℕ) (o l held : List ℕ) (start : ℕ) : Type 0 where
  pub long : length held ≡ 544
  pub same : length l ≡ length o
  pub front : (i : ℕ) → i < start → get_or l i 0 ≡ coded_at W k p o i
  pub back : (i : ℕ) → start ≤ i → get_or l i 0 ≡ get_or o i 0
  pub ready : (j : ℕ) → j < k → start + j < length o → get_or held j 0 ≡ offset k p o (start + j)

split {ℓ} : {P : Type ℓ} (a b : ℕ) → (a < b → P) → (b ≤ a → P) → P
split {P = P} a b f g = go (ltb a b) refl
  where
    go : (t : Bool) → ltb a b ≡ t → P
    go true e = f (ltb-true a b e)
    go false e = g (ltb-false a b e)

-- ---- places, apart from all that is known of a batch
less_added : (i k : ℕ) → i + k - k ≡ i
less_added i k = omega arith

added_less : (k i : ℕ) → k + i - k ≡ i
added_less k i = omega arith

less_between : (start k i : ℕ) → start + (k + i) - k ≡ start + i
less_between start k i = omega arith

between : (k j : ℕ) → k ≤ j → k + (j - k) ≡ j
between k j h = omega arith

past : (k j more : ℕ) → k ≤ j → j < k + more → j - k < more
past k j more h u = omega arith

reaches : (start k i : ℕ) → k ≤ start + (k + i)
reaches start k i = omega arith

pub taken_le : (n : ℕ) (l : List ℕ) → length (take n l) ≤ n
taken_le n l = omega (arith, length-take n l)

-- no more predictions are asked for than there are samples past the first k that are left
pub few_enough : (k more start : ℕ) (held l : List ℕ) → more ≤ length l - start - k → length (take (k + more - k) (drop k held)) ≤ length (take (length l - start) (drop start l)) - k
few_enough k more start held l h =
    let all : length (drop start l) ≤ length l - start = le_of_eq (length-drop start l) in
    rw (take_all (length l - start) (drop start l) all, length-drop start l) (le_trans (taken_le (k + more - k) (drop k held)) (rw (added_less k more) h))

module _ (W k : ℕ) (p : List ℕ → ℕ) (o : List ℕ) where
  offset_early : (i : ℕ) → i < k → offset k p o i ≡ 0
  unfolding offset
  offset_early i h = rw (lt-ltb i k h)

  offset_late : (i : ℕ) → k ≤ i → offset k p o i ≡ p (window k i o)
  unfolding offset
  offset_late i h = rw (le-ltb i k h)

  whole_turn : (x c m : ℕ) → x + (m - 0) + c ≡ x + c + m
  whole_turn x c m = omega arith

  -- the two cases of a coded place are one, by what is taken off
  coded_is : (i : ℕ) → residual W (get_or o i 0) (offset k p o i) ≡ coded_at W k p o i
  unfolding residual coded_at toggled
  coded_is i =
      split i k
      (λ h. rw (offset_early i h, lt-ltb i k h) (ap (λ (n : ℕ). n % 2 ^ W) (whole_turn (get_or o i 0) (centre W) (2 ^ W)) ∙ add-mod_right (get_or o i 0 + centre W) (2 ^ W)))
      (λ h. rw (offset_late i h, le-ltb i k h))

  pub begin : (zeros : List ℕ) → length zeros ≡ 544 → ((j : ℕ) → get_or zeros j 0 ≡ 0) → Batched W k p o o zeros 0
  begin zeros e z =
      record {
        long = e;
        same = refl;
        front = λ i h. absurd (not-suc-le-zero h);
        back = λ i h. refl;
        ready = λ j h u. z j ∙ sym (offset_early (0 + j) (omega arith));
      }

  pub whole : {l held : List ℕ} {start : ℕ} → Batched W k p o l held start → length o ≤ start → l ≡ encoded_buffer W k p o
  unfolding encoded_buffer
  whole {l} b h =
      ext_get_or 0 l (tabulate (length o) (coded_at W k p o)) (b.same ∙ sym (length-tabulate (length o) (coded_at W k p o)))
      (λ i u. b.front i (omega (arith, b.same)) ∙ sym (get_d_tabulate (length o) (coded_at W k p o) i 0 (omega (arith, b.same))))

  -- ---- one batch: `count` samples are coded, after `more` predictions were made into `made`, and `coded` is put in their place
  module _ (l held made coded held₂ : List ℕ) (start count more : ℕ) (b : Batched W k p o l held start) (small : k ≤ 32)
      (left : start < length o) (ec : count ≡ min (length o - start) 512) (em : more ≡ min (length o - start - k) 512)
      (made-is : made ≡ tabulate (length (take (k + more - k) (drop k held))) (λ i. p (window k (i + k) (take (length l - start) (drop start l)))))
      (coded-as : coded ≡ tabulate (length (take (start + count - start) (drop start l))) (λ i. residual W (get_or (take (start + count - start) (drop start l)) i 0) (get_or (put_mid k (k + more - k) held made) i 0)))
      (held_is : held₂ ≡ take k (drop 512 (put_mid k (k + more - k) held made)) ++ drop k (put_mid k (k + more - k) held made)) where
    abbrev held₁ : List ℕ
    held₁ = put_mid k (k + more - k) held made

    more_is : k + more - k ≡ more
    more_is = added_less k more

    count_is : start + count - start ≡ count
    count_is = added_less start count

    pub room : k + more ≤ length held
    room = omega (arith, b.long)

    pub inside : start + count ≤ length l
    inside = omega (arith, b.same)

    pub made_long : length made ≡ length (take (k + more - k) (drop k held))
    made_long = ap length made-is ∙ length-tabulate _ _

    made_count : length made ≡ more
    made_count = made_long ∙ length-take-le (k + more - k) (drop k held) (omega (arith, length-drop k held, room)) ∙ more_is

    pub held₁_long : length held₁ ≡ 544
    held₁_long = same_len_mid k (k + more - k) held made made_long ∙ b.long

    pub coded_long : length coded ≡ length (take (start + count - start) (drop start l))
    coded_long = ap length coded-as ∙ length-tabulate _ _

    coded_count : length coded ≡ count
    coded_count = coded_long ∙ length-take-le (start + count - start) (drop start l) (omega (arith, length-drop start l, inside)) ∙ count_is

    -- the samples that are left are as they came
    rest_same : drop start l ≡ drop start o
    rest_same = drop_same start l o b.same b.back

    rest_window : (i : ℕ) → window k (i + k) (take (length l - start) (drop start l)) ≡ window k (start + (k + i)) o
    unfolding window
    rest_window i =
        rw (
          take_all (length l - start) (drop start l) (le_of_eq (length-drop start l)),
          rest_same,
          less_added i k,
          less_between start k i,
          drop-drop,
        )

    made_at : (i : ℕ) → i < more → get_or made i 0 ≡ p (window k (start + (k + i)) o)
    made_at i h =
        ap (λ (m : List ℕ). get_or m i 0) (made-is ∙ ap (λ (n : ℕ). tabulate n (λ j. p (window k (j + k) (take (length l - start) (drop start l))))) (sym made_long ∙ made_count))
        ∙ get_d_tabulate more (λ j. p (window k (j + k) (take (length l - start) (drop start l)))) i 0 h
        ∙ ap p (rest_window i)

    -- the predictions that are there now, the held ones in front
    predicted : (j : ℕ) → j < k + more → start + j < length o → get_or held₁ j 0 ≡ offset k p o (start + j)
    predicted j h u =
        split j k
        (λ early. parts.before_part k (k + more - k) held made 0 held_room made_fits j early ∙ b.ready j early u)
        (λ late. rw (between k j late) at (later (j - k) (past k j more late h)))
      where
        held_room : k + (k + more - k) ≤ length held
        held_room = rw more_is room

        made_fits : length made ≡ k + more - k
        made_fits = made_count ∙ sym more_is

        later : (i : ℕ) → i < more → get_or held₁ (k + i) 0 ≡ offset k p o (start + (k + i))
        later i v =
            parts.in_part k (k + more - k) held made 0 held_room made_fits i (rw more_is v)
            ∙ made_at i v
            ∙ sym (offset_late (start + (k + i)) (reaches start k i))

    coded_at_lem : (j : ℕ) → j < count → get_or coded j 0 ≡ coded_at W k p o (start + j)
    coded_at_lem j h =
        ap (λ (m : List ℕ). get_or m j 0) (coded-as ∙ ap (λ (n : ℕ). tabulate n (λ i. residual W (get_or (take (start + count - start) (drop start l)) i 0) (get_or held₁ i 0))) (sym coded_long ∙ coded_count))
        ∙ get_d_tabulate count (λ i. residual W (get_or (take (start + count - start) (drop start l)) i 0) (get_or held₁ i 0)) j 0 h
        ∙ ap₂ (residual W) (sample_at j h) (predicted j (enough j h) (omega arith))
        ∙ coded_is (start + j)
      where
        enough : (j : ℕ) → j < count → j < k + more
        enough j h = omega arith

        sample_at : (j : ℕ) → j < count → get_or (take (start + count - start) (drop start l)) j 0 ≡ get_or o (start + j) 0
        sample_at j h =
            get_or-take (start + count - start) (drop start l) j 0 (rw count_is h)
            ∙ get_or-drop start l j 0
            ∙ b.back (start + j) (omega arith)

    coded_room : start + (start + count - start) ≤ length l
    coded_room = rw count_is inside

    coded_fits : length coded ≡ start + count - start
    coded_fits = coded_count ∙ sym count_is

    held₂_at : (j : ℕ) → j < k → get_or held₂ j 0 ≡ get_or held₁ (512 + j) 0
    held₂_at j h =
        ap (λ (m : List ℕ). get_or m j 0) held_is
        ∙ get_or-append (take k (drop 512 held₁)) (drop k held₁) 0 j (omega (arith, length-take-le k (drop 512 held₁) (omega (arith, length-drop 512 held₁, held₁_long))))
        ∙ get_or-take k (drop 512 held₁) j 0 h
        ∙ get_or-drop 512 held₁ j 0

    -- another batch follows only a whole one, and what it needs first was predicted
    follows : (j : ℕ) → start + count + j < length o → start + count + j ≡ start + (512 + j)
    follows j u = omega arith

    ahead : (j : ℕ) → j < k → start + count + j < length o → 512 + j < k + more
    ahead j h u = omega arith

    pub batch : Batched W k p o (put_mid start (start + count - start) l coded) held₂ (start + count)
    batch =
        record {
          long =
              ap length held_is ∙ length-append (take k (drop 512 held₁)) (drop k held₁)
              ∙ omega (arith, length-take-le k (drop 512 held₁) (omega (arith, length-drop 512 held₁, held₁_long)), length-drop k held₁, held₁_long);
          same = same_len_mid start (start + count - start) l coded coded_long ∙ b.same;
          front = λ i h.
              split i start (λ early. parts.before_part start (start + count - start) l coded 0 coded_room coded_fits i early ∙ b.front i early)
              (λ late. rw (between start i late) at (newly (i - start) (past start i count late h)));
          back = λ i h.
              parts.after_part start (start + count - start) l coded 0 coded_room coded_fits i (rw count_is h) ∙ b.back i (omega arith);
          ready = λ j h u.
              held₂_at j h ∙ predicted (512 + j) (ahead j h u) (rw (follows j u) at u) ∙ ap (offset k p o) (sym (follows j u));
        }
      where
        newly : (j : ℕ) → j < count → get_or (put_mid start (start + count - start) l coded) (start + j) 0 ≡ coded_at W k p o (start + j)
        newly j h = parts.in_part start (start + count - start) l coded 0 coded_room coded_fits j (rw count_is h) ∙ coded_at_lem j h
