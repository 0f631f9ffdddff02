-- Batches: the loop that goes from batch to batch with the state between them.
-- Over the width W, the order k and any predictor p. Assumes nothing.
use mathlib.Core.Path.{◌≡◌, refl, sym, ap, ◌∙◌}
use mathlib.Core.List.{List, ◌++◌, append_assoc, append-nil}
use Prim.Native.Nat.{ℕ, ◌+◌, ◌-◌, ◌≤◌}
use native.Mathlib.Omega.{arith}
use lib.ListN.{length, take, drop, length-append, drop_of_length-le, take-append-drop}
use lib.Seq.{take_at, drop_at, take_all, length-take-le, take-add, drop-drop}
use borrow.Rule.Slice.PartMut.{put_mid}
use Rattle.rule.specs.Coding.{decoded_piece, new_state}
use Rattle.rule.proofs.Extending as extending

-- ---- the loop over batches, from state₀ and residuals₀: the outputs of the residuals before `start`, and then the residuals
pub record Going (W k : ℕ) (p : List ℕ → ℕ) (state₀ residuals₀ state residuals : List ℕ) (start : ℕ) : Type 0 where
  pub within : start ≤ length residuals₀
  pub same : length residuals ≡ length residuals₀
  pub full : length state ≡ k
  pub outputs : residuals ≡ decoded_piece W k p state₀ (take start residuals₀) ++ drop start residuals₀
  pub next : state ≡ new_state W k p state₀ (take start residuals₀)

module _ (W k : ℕ) (p : List ℕ → ℕ) (state₀ residuals₀ : List ℕ) (full₀ : length state₀ ≡ k) where
  pub begun : Going W k p state₀ residuals₀ state₀ residuals₀ 0
  unfolding decoded_piece new_state
  begun = record { within = omega arith; same = refl; full = full₀; outputs = refl; next = refl }

  module _ {state residuals : List ℕ} {start : ℕ} (g : Going W k p state₀ residuals₀ state residuals start) where
    passed : length (decoded_piece W k p state₀ (take start residuals₀)) ≡ start
    passed = extending.length_decoded W k p state₀ (take start residuals₀) full₀ ∙ length-take-le start residuals₀ g.within

    ahead : drop start residuals ≡ drop start residuals₀
    ahead = rw g.outputs (drop_at (decoded_piece W k p state₀ (take start residuals₀)) (drop start residuals₀) start passed)

    behind : take start residuals ≡ decoded_piece W k p state₀ (take start residuals₀)
    behind = rw g.outputs (take_at (decoded_piece W k p state₀ (take start residuals₀)) (drop start residuals₀) start passed)

    module _ (end : ℕ) (out next : List ℕ) (h : start ≤ end) (within : end ≤ length residuals₀)
        (out-is : out ≡ decoded_piece W k p state (take (end - start) (drop start residuals)))
        (next_is : next ≡ new_state W k p state (take (end - start) (drop start residuals)))
      where
        to_end : start + (end - start) ≡ end
        to_end = omega arith

        more : take end residuals₀ ≡ take start residuals₀ ++ take (end - start) (drop start residuals₀)
        more = rw to_end at (take-add start (end - start) residuals₀)

        next_more : next ≡ new_state W k p state₀ (take end residuals₀)
        next_more =
            next_is
            ∙ rw (ahead, g.next, more) (sym (extending.state_more W k p state₀ (take start residuals₀) full₀ (take (end - start) (drop start residuals₀))))

        outputs_more : put_mid start (end - start) residuals out ≡ decoded_piece W k p state₀ (take end residuals₀) ++ drop end residuals₀
        outputs_more =
            rw (
              behind,
              out-is,
              ahead,
              g.next,
              drop-drop,
              to_end,
              more,
              extending.decoded_more W k p state₀ (take start residuals₀) full₀ (take (end - start) (drop start residuals₀)),
            )
            (sym (append_assoc (decoded_piece W k p state₀ (take start residuals₀)) _ (drop end residuals₀)))

        pub turn : Going W k p state₀ residuals₀ next (put_mid start (end - start) residuals out) end
        turn =
            record {
              within = within;
              same =
                  rw (outputs_more, length-append, extending.length_decoded W k p state₀ (take end residuals₀) full₀)
                  (sym (length-append (take end residuals₀) (drop end residuals₀)) ∙ ap length (take-append-drop end residuals₀));
              full = rw next_more (extending.length_state W k p state₀ (take end residuals₀) full₀);
              outputs = outputs_more;
              next = next_more;
            }

    pub ended : length residuals ≤ start → (residuals ≡ decoded_piece W k p state₀ residuals₀) × (state ≡ new_state W k p state₀ residuals₀)
    ended past =
        let h : length residuals₀ ≤ start = omega (arith, g.same) in
        (g.outputs ∙ rw (take_all start residuals₀ h, drop_of_length-le residuals₀ h) (append-nil _), g.next ∙ rw (take_all start residuals₀ h))
