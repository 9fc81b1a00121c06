-- The parcel of a reply.
use Rattle.std.specs.Prelude.{Option, Some, None, Ok, Err}
use Rattle.ic_base.specs.declared.datagram.Parcel.{Parcel}
use Rattle.ic_law.specs.declared.history.HubReply.{HubReply}
use Rattle.ic_law.specs.declared.history.HubReply.TheVariants.{Begun, Gave, Took, Came, Ticked, Cleared, Left, Memory}

-- what a take was given, if it was served
abbrev pub parcel_of : HubReply → Option Parcel
parcel_of (Begun r) = None
parcel_of (Gave r) = None
parcel_of (Took (Ok r)) = Some r.0
parcel_of (Took (Err refusal)) = None
parcel_of (Came how ds) = None
parcel_of (Ticked r) = None
parcel_of (Cleared r) = None
parcel_of (Left r) = None
parcel_of Memory = None
