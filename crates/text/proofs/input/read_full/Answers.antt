-- A read puts its bytes behind those that were read before, and the reader loses them in that order.
use Rattle.std.proofs.Common.{◌≡◌, ℕ, ◌+◌, ◌-◌, ◌≤◌, List, ◌++◌, rules, length, take, sym, subst, drop_at, length-take-le}
use Rattle.std.proofs.KnownBytes.{Consumes-trans}
use Rattle.std.specs.Io.KnownBytes.{Consumes}
use borrow.Rule.Slice.PartMut.{put_mid, post_of}
use lib.Seq.{take_at, take-add, take-append-le}
use Rattle.text.proofs.input.read_full.Goals as goal

-- the first bytes of a slice whose part from a on was lent and has come back as ys
front : (a k n : ℕ) (xs ys : List ℕ) → a ≤ length xs → n ≤ length ys → take (a + n) (put_mid a k xs ys) ≡ take a xs ++ take n ys
front a k n xs ys within fits =
    let rest = ys ++ post_of a k xs in
    let long = length-take-le a xs within in
    rw (take-add a n (take a xs ++ rest), take_at (take a xs) rest a long, drop_at (take a xs) rest a long, take-append-le n ys (post_of a k xs) fits)

pub loop-done-preserved : goal.loop-done-preserved
loop-done-preserved g c =
    let space = c.loop-done.space in
    let done = c.loop-done.done in
    let read = front done (length space - done) c.in_ok-n.n space c.read.new.buf c.loop-done.invariant.0 c.in_ok-n.ensures.bound.0 in (
      search rules,
      subst (Consumes _ _) (sym read) (Consumes-trans _ _ _ _ _ c.loop-done.invariant.1 c.in_ok-n.ensures.bytes.0),
    )
