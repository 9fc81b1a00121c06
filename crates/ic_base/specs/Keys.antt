-- Whether two keys name the same connection.
use Rattle.std.specs.Prelude.{Bool, ◌&&◌, ◌==◌}
use Rattle.std.specs.Ordering.{int_eq}
use Rattle.ic_base.specs.declared.keys.ConnKey.{ConnKey}

unfoldable pub key_eq : ConnKey → ConnKey → Bool
key_eq a b = (a.session == b.session) && ((a.query == b.query) && ((a.motion == b.motion) && (int_eq a.from b.from && int_eq a.to b.to)))
