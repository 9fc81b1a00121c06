-- Which settings are allowed.
use Rattle.std.specs.Prelude.{ℕ, Bool, ◌&&◌, nat_le, if◌then◌else◌, Result, Ok, Err, ◌≤◌}
use Rattle.ic_base.specs.declared.settings.Settings.{Settings}
use Rattle.ic_base.specs.declared.settings.Flow.TheVariants.{Loss}
use Rattle.ic_base.specs.declared.settings.OutOfRange.{OutOfRange}
use Rattle.ic_base.specs.declared.settings.Field.{Field}
use Rattle.ic_base.specs.declared.settings.Field.TheVariants.{Packet, ReceiveDepth, SendDepth, Retries}

abbrev pub default_settings : Settings
default_settings = record { packet = 8192; receive_depth = 4; send_depth = 2; retries = 20; flow = Loss }

abbrev pub is_within : ℕ → ℕ → ℕ → Bool
is_within least n greatest = nat_le least n && nat_le n greatest

abbrev pub refused : Field → Result Settings OutOfRange
refused field = Err (record { field = field })

-- the settings, or the first field that is out of its range
abbrev pub checked : Settings → Result Settings OutOfRange
checked s =
    if is_within 128 s.packet 65507 then
    (if is_within 1 s.receive_depth 256 then
    (if is_within 1 s.send_depth 256 then
    (if is_within 1 s.retries 1000 then Ok s else refused Retries)
    else refused SendDepth)
    else refused ReceiveDepth)
    else refused Packet

-- each field is in its range
pub record AreChecked (s : Settings) : Type 0 where
  pub least_packet : 128 ≤ s.packet
  pub greatest_packet : s.packet ≤ 65507
  pub least_receive_depth : 1 ≤ s.receive_depth
  pub greatest_receive_depth : s.receive_depth ≤ 256
  pub least_send_depth : 1 ≤ s.send_depth
  pub greatest_send_depth : s.send_depth ≤ 256
  pub least_retries : 1 ≤ s.retries
  pub greatest_retries : s.retries ≤ 1000
