-- A slice as its contracts see it.
use Rattle.ex_tree.specs.Running.{state_of}
use Rattle.ex_slice.specs.declared.slice.Slice.{Slice}
use Rattle.ex_slice.specs.Working.{Working}

abbrev pub working : Slice → Working
working s = record { stage = s.stage; tree = state_of s.tree; way = s.way }
