-- The status of each stop, and its line.
use Rattle.std.specs.Prelude.{ℕ, List, [], ◌++◌, codes, decimal}
use Rattle.std.specs.Fmt.{signed_decimal}
use Rattle.ic_base.specs.declared.keys.ConnKey.{ConnKey}
use Rattle.pl_read.specs.declared.fault.DocFault.{DocFault}
use Rattle.pl_plan.specs.declared.rule.Rule.{Rule}
use Rattle.pl_plan.specs.declared.rule.Rule.TheVariants.{UnknownTable, Column, ColumnKind, JoinLocus, AggLocus, LimitLocus, OrderMissing, MotionAboveEntry, PartialUnmatched, NotAtEntry, TooWide, TooMany}
use Rattle.pl_plan.specs.declared.rule.PlanFault.{PlanFault}
use Rattle.pl_plan.specs.Rules.{rule_number}
use Rattle.gd_sim.specs.declared.run.FirstNo.{FirstNo}
use Rattle.gd_sim.specs.declared.run.FirstNo.TheVariants as fault
use Rattle.icq_top.specs.declared.stop.Stop.{Stop}
use Rattle.icq_top.specs.declared.stop.Stop.TheVariants.{Usage, ReadFault, TooLong, Unread, Unsound, NotBuilt, Memory}

-- ---- before a run

-- the exit status
abbrev pub status_of_stop : Stop → ℕ
status_of_stop Usage = 1
status_of_stop ReadFault = 4
status_of_stop TooLong = 11
status_of_stop (Unread fault) = 2
status_of_stop (Unsound query fault) = 3
status_of_stop NotBuilt = 15
status_of_stop Memory = 10

-- what is wrong with the document, and where
unfoldable pub unread_text : DocFault → List ℕ
unread_text f = decimal f.code ++ codes " path " ++ f.path ++ codes "\n"

-- the query, the node and the rule that it breaks
unfoldable pub unsound_text : ℕ → PlanFault → List ℕ
unsound_text query f = decimal query ++ codes " node " ++ decimal f.node ++ codes " rule " ++ decimal (rule_number f.rule)

-- how much there is of what a rule limits
abbrev pub measure_text : Rule → List ℕ
measure_text UnknownTable = []
measure_text Column = []
measure_text ColumnKind = []
measure_text JoinLocus = []
measure_text AggLocus = []
measure_text LimitLocus = []
measure_text OrderMissing = []
measure_text MotionAboveEntry = []
measure_text PartialUnmatched = []
measure_text NotAtEntry = []
measure_text (TooWide bytes) = codes " bytes " ++ decimal bytes
measure_text (TooMany n) = codes " workers " ++ decimal n

-- the line that is written
abbrev pub error_text : Stop → List ℕ
error_text Usage = codes "error 1 usage\n"
error_text ReadFault = codes "error 4 read\n"
error_text TooLong = codes "error 11 input too long\n"
error_text (Unread f) = codes "error 2 document code " ++ unread_text f
error_text (Unsound query f) = codes "error 3 plan query " ++ unsound_text query f ++ measure_text f.rule ++ codes "\n"
error_text NotBuilt = codes "error 15 not built\n"
error_text Memory = codes "error 10 memory\n"

-- ---- at the end of a run

abbrev pub status_of_fault : FirstNo → ℕ
status_of_fault (fault.Unfinished rounds) = 9
status_of_fault (fault.Spent key seq tries) = 8
status_of_fault (fault.TooLong key) = 12

-- a connection, as the lines of faults name it
unfoldable pub key_text : ConnKey → List ℕ
key_text key = codes " query " ++ decimal key.query ++ codes " motion " ++ decimal key.motion ++ codes " from " ++ signed_decimal key.from ++ codes " to " ++ signed_decimal key.to

unfoldable pub unfinished_text : ℕ → ℕ → List ℕ
unfinished_text query rounds = decimal query ++ codes " rounds " ++ decimal rounds ++ codes "\n"

unfoldable pub tries_text : ℕ → ℕ → List ℕ
tries_text seq tries = codes " seq " ++ decimal seq ++ codes " tries " ++ decimal tries ++ codes "\n"

-- the line of a fault, by the number of the query that isn't over
abbrev pub fault_text : ℕ → FirstNo → List ℕ
fault_text query (fault.Unfinished rounds) = codes "error 9 unfinished query " ++ unfinished_text query rounds
fault_text query (fault.Spent key seq tries) = codes "error 8 spent" ++ key_text key ++ tries_text seq tries
fault_text query (fault.TooLong key) = codes "error 12 stream too long" ++ key_text key ++ codes "\n"
