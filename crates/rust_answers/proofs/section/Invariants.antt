-- Each line leaves less of the text.
use Rattle.std.proofs.Common.{length}
use Rattle.rust_answers.proofs.section.Given as goal

abbrev pub decreases-loop-words : goal.decreases-loop-words
decreases-loop-words g l = length l.cursor.rest.now
