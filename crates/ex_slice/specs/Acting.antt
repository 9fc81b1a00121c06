-- What one action of a slice does, in words that only the crate's own functions use.
use Rattle.std.specs.Prelude.{◌≡◌, Result, Ok, Err, List, false}
use Rattle.std.specs.List.{AllByRecursion}
use Rattle.ic_base.specs.declared.keys.ConnEnd.{ConnEnd}
use Rattle.ic_row.specs.Spelling.{HasLengths}
use Rattle.ic_motion.specs.Sending.{SendsToEach, receivers_of, IsIdle}
use Rattle.ic_base.specs.declared.port.PortNo.TheVariants as ports
use Rattle.ic_base.specs.declared.port.PortEntry.{PortEntry}
use Rattle.ic_motion.specs.declared.answers.MotionNo.{MotionNo}
use Rattle.ic_motion.specs.declared.answers.MotionNo.TheVariants as motions
use Rattle.ic_motion.specs.declared.answers.Sent.{Sent}
use Rattle.ic_motion.specs.declared.answers.Sent.TheVariants as sents
use Rattle.ex_tree.specs.declared.answers.TreeNo.{TreeNo}
use Rattle.ex_tree.specs.declared.answers.TreeNo.TheVariants as trees
use Rattle.ex_tree.specs.Running.{State}
use Rattle.ex_slice.specs.declared.stage.Stage.{Stage}
use Rattle.ex_slice.specs.declared.stage.Stage.TheVariants as stages
use Rattle.ex_slice.specs.declared.stage.Turned.{Turned}
use Rattle.ex_slice.specs.declared.stage.Turned.TheVariants as turned
use Rattle.ex_slice.specs.declared.stage.SliceNo.{SliceNo}
use Rattle.ex_slice.specs.declared.stage.SliceNo.TheVariants as why
use Rattle.ex_slice.specs.declared.stage.Gave.{Gave}
use Rattle.ex_slice.specs.declared.stage.Gave.TheVariants as gave
use Rattle.ex_slice.specs.declared.way.Way.{Way}
use Rattle.ex_slice.specs.declared.way.Way.TheVariants as ways
use Rattle.ex_slice.specs.Working.{Working, held}
use Rattle.ex_slice.specs.Turning.{TurnsAny}

abbrev pub at_stage : Stage → State → Way → Working
at_stage stage tree way = record { stage = stage; tree = tree; way = way }

-- ---- refusals

abbrev pub no_of_tree : TreeNo → SliceNo
no_of_tree (trees.Malformed key) = why.Malformed key
no_of_tree (trees.Overflow node) = why.Overflow node
no_of_tree trees.Memory = why.Memory

-- a sending end never answers Malformed
abbrev pub no_of_motion : MotionNo → SliceNo
no_of_motion (motions.TooLong key) = why.TooLong key
no_of_motion (motions.Malformed key) = why.Memory
no_of_motion motions.Memory = why.Memory

-- ---- giving

abbrev pub stage_given : Result Gave SliceNo → Stage
stage_given (Ok gave.Moved) = stages.Giving
stage_given (Ok (gave.Waiting no_)) = stages.Giving
stage_given (Ok gave.Ended) = stages.Ending
stage_given (Ok gave.Unwanted) = stages.Halting
stage_given (Err no_) = stages.Refused no_

abbrev pub turned_given : Result Gave SliceNo → Result Turned SliceNo
turned_given (Ok gave.Moved) = Ok turned.Moved
turned_given (Ok (gave.Waiting no_)) = Ok (turned.Waiting no_)
turned_given (Ok gave.Ended) = Ok turned.Moved
turned_given (Ok gave.Unwanted) = Ok turned.Moved
turned_given (Err no_) = Err no_

abbrev pub Gives : (old new : State) → (was now : Way) → (log after : List PortEntry) → Result Gave SliceNo → Type 0
Gives old new was now log after result = TurnsAny (at_stage stages.Giving old was) (at_stage (stage_given result) new now) log after (turned_given result)

abbrev pub GiveWaits : Result Gave SliceNo → Type 0
GiveWaits result = result ≡ Ok (gave.Waiting ports.Busy)

-- ---- finishing the streams

abbrev pub stage_ended : Result Sent SliceNo → Stage
stage_ended (Ok sents.Done) = stages.Halting
stage_ended (Ok sents.AllStopped) = stages.Halting
stage_ended (Ok sents.More) = stages.Ending
stage_ended (Ok (sents.Wait no_)) = stages.Ending
stage_ended (Err no_) = stages.Refused no_

abbrev pub turned_ended : Result Sent SliceNo → Result Turned SliceNo
turned_ended (Ok sents.Done) = Ok turned.Moved
turned_ended (Ok sents.AllStopped) = Ok turned.Moved
turned_ended (Ok sents.More) = Ok turned.Moved
turned_ended (Ok (sents.Wait no_)) = Ok (turned.Waiting no_)
turned_ended (Err no_) = Err no_

abbrev pub Ends : (was now : Way) → (log after : List PortEntry) → Result Sent SliceNo → Type 0
Ends was now log after result = (tree : State) → TurnsAny (at_stage stages.Ending tree was) (at_stage (stage_ended result) tree now) log after (turned_ended result)

abbrev pub SentWaits : Result Sent SliceNo → Type 0
SentWaits result = result ≡ Ok (sents.Wait ports.Busy)

-- ---- halts

abbrev pub stage_halted : Result Sent SliceNo → Stage
stage_halted (Ok sents.Done) = stages.Done
stage_halted (Ok sents.AllStopped) = stages.Halting
stage_halted (Ok sents.More) = stages.Halting
stage_halted (Ok (sents.Wait no_)) = stages.Halting
stage_halted (Err no_) = stages.Refused no_

abbrev pub turned_halted : Result Sent SliceNo → Result Turned SliceNo
turned_halted (Ok sents.Done) = Ok turned.Done
turned_halted (Ok sents.AllStopped) = Ok turned.Moved
turned_halted (Ok sents.More) = Ok turned.Moved
turned_halted (Ok (sents.Wait no_)) = Ok (turned.Waiting no_)
turned_halted (Err no_) = Err no_

abbrev pub Halts : (old new : State) → (log after : List PortEntry) → Result Sent SliceNo → Type 0
Halts old new log after result = (way : Way) → TurnsAny (at_stage stages.Halting old way) (at_stage (stage_halted result) new way) log after (turned_halted result)

-- ---- what an action needs

-- to give rows
abbrev pub CanGive : List ConnEnd → Way → Type 0
CanGive keys (ways.Lets rows) = Unit {0}
CanGive keys (ways.Passes m hand) = SendsToEach keys m.motion (receivers_of m.targets) × (m.ending ≡ false) × AllByRecursion HasLengths (held hand)

-- to finish streams
abbrev pub CanEnd : List ConnEnd → Way → Type 0
CanEnd keys (ways.Lets rows) = Unit {0}
CanEnd keys (ways.Passes m hand) = SendsToEach keys m.motion (receivers_of m.targets) × IsIdle m.work
