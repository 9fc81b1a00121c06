-- What one more entry makes of the timing of a sending end.
use Rattle.std.proofs.Common.{◌≡◌, ◌+◌, List, [], ◌∷◌, ◌++◌, refl, ap, ◌∙◌, sym, append_assoc, append-nil, arith}
use Rattle.ic_base.specs.declared.keys.ConnKey.{ConnKey}
use Rattle.ic_base.specs.declared.settings.Settings.{Settings}
use Rattle.ic_law.specs.declared.history.Entry.{Entry}
use Rattle.ic_law.specs.Clock.{ticks_by, ticks_of}
use Rattle.ic_law.specs.Timers.{Timing, fresh_timing}
use Rattle.ic_law.specs.Timing.{next_timing, timing_from, timing_of}

from-push : (c : ConnKey) (settings : Settings) (before : List Entry) (t : Timing) (es : List Entry) (e : Entry)
    → timing_from c settings before t (es ++ e ∷ []) ≡ next_timing c settings (before ++ es) e (timing_from c settings before t es)
from-push c settings before t [] e = ap (λ b. next_timing c settings b e t) (sym (append-nil before))
from-push c settings before t (x ∷ es) e =
    from-push c settings (before ++ x ∷ []) (next_timing c settings before x t) es e
    ∙ ap (λ b. next_timing c settings b e (timing_from c settings (before ++ x ∷ []) (next_timing c settings before x t) es)) (append_assoc before (x ∷ []) es)

pub timing_of-none : (c : ConnKey) (settings : Settings) → timing_of c settings [] ≡ fresh_timing settings
unfolding timing_of
timing_of-none c settings = refl

pub timing_of-push : (c : ConnKey) (settings : Settings) (h : List Entry) (e : Entry) → timing_of c settings (h ++ e ∷ []) ≡ next_timing c settings h e (timing_of c settings h)
unfolding timing_of
timing_of-push c settings h e = from-push c settings [] (fresh_timing settings) h e

pub ticks_of-push : (h : List Entry) (e : Entry) → ticks_of (h ++ e ∷ []) ≡ ticks_of h + ticks_by e.reply
ticks_of-push [] e = omega arith
ticks_of-push (x ∷ h) e = ap (λ n. ticks_by x.reply + n) (ticks_of-push h e) ∙ omega arith
