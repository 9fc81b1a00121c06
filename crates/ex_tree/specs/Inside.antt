-- Words that only the crate's own functions use.
use Rattle.std.specs.Prelude.{ℕ, Result, Ok, Err}
use Rattle.pl_ops.specs.declared.words.OpNo.{OpNo}
use Rattle.pl_ops.specs.declared.words.OpNo.TheVariants as nos
use Rattle.ic_motion.specs.declared.answers.Got.{Got}
use Rattle.ic_motion.specs.declared.answers.Got.TheVariants as gots
use Rattle.ic_motion.specs.declared.answers.Sent.{Sent}
use Rattle.ic_motion.specs.declared.answers.Sent.TheVariants as sents
use Rattle.ic_motion.specs.declared.answers.MotionNo.{MotionNo}
use Rattle.ic_motion.specs.declared.answers.MotionNo.TheVariants as motions
use Rattle.ex_tree.specs.declared.answers.Pulled.{Pulled}
use Rattle.ex_tree.specs.declared.answers.Pulled.TheVariants.{Row, More, Wait, End}
use Rattle.ex_tree.specs.declared.answers.TreeNo.{TreeNo}
use Rattle.ex_tree.specs.declared.answers.TreeNo.TheVariants as why

abbrev pub no_of : OpNo → ℕ → TreeNo
no_of nos.Overflow node = why.Overflow node
no_of nos.Memory node = why.Memory

abbrev pub no_of_motion : MotionNo → TreeNo
no_of_motion (motions.Malformed key) = why.Malformed key
no_of_motion (motions.TooLong key) = why.Memory
no_of_motion motions.Memory = why.Memory

-- a motion's answer as a tree's
abbrev pub tree_result : Result Got MotionNo → Result Pulled TreeNo
tree_result (Ok (gots.Row row)) = Ok (Row row)
tree_result (Ok gots.More) = Ok More
tree_result (Ok (gots.Wait no_)) = Ok (Wait no_)
tree_result (Ok gots.End) = Ok End
tree_result (Err no_) = Err (no_of_motion no_)

-- a halt that was made is one of several, and the last one too
abbrev pub halt_result : Result Sent MotionNo → Result Sent TreeNo
halt_result (Ok sents.Done) = Ok sents.More
halt_result (Ok sents.More) = Ok sents.More
halt_result (Ok (sents.Wait no_)) = Ok (sents.Wait no_)
halt_result (Ok sents.AllStopped) = Ok sents.More
halt_result (Err no_) = Err why.Memory
