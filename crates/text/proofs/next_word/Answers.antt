-- Past the text there are no bytes left.
use Rattle.std.proofs.Common.{◌≡◌, [], drop, arith, add-zero}
use Rattle.std.proofs.Math.Nat.{sub_self}
use Rattle.std.proofs.lemmas.List.{drop_all}
use Rattle.text.specs.Words.{front, meaning, number, word_from}
use Rattle.text.proofs.next_word.Goals as goal

pub returns-then-text-from : goal.returns-then-text-from
unfolding word_from front meaning number
returns-then-text-from c =
    let none : drop c.args.from c.args.text.now ≡ [] = drop_all c.args.from c.args.text.now (omega arith) in
    simp (none, add-zero, sub_self)
