-- What a call makes of its node, and of the session.
use Rattle.std.proofs.Common.{◌≡◌, ℕ, ℤ, [], ◌∷◌, ◌++◌, length, set, Bool, true, false, Some, None, Result, Ok, Err, IfOk, refl, ap, ◌∙◌, subst, slice_get}
use Rattle.ic_law.specs.declared.history.HubAsk.{HubAsk}
use Rattle.ic_law.specs.declared.history.HubReply.{HubReply}
use Rattle.ic_law.specs.declared.history.HubReply.TheVariants as reply
use Rattle.ic_law.specs.declared.history.Entry.{Entry}
use Rattle.ic_law.specs.Streams.{node_of}
use Rattle.std.specs.declared.alloc.AllocError.{AllocError}
use Rattle.ic_port.specs.Noding.{Noding}
use Rattle.ic_port.specs.Calls.{Adds, LeftOrNot}
use Rattle.gd_world.specs.declared.step.Step.{Step}
use Rattle.gd_world.specs.declared.step.Step.TheVariants as step
use Rattle.gd_world.specs.Events.{segment_at}
use Rattle.gd_world.specs.Sessions.{Sessional}
use Rattle.gd_world.specs.Inside.{StaysBy, Does, DoesLeave, EntersAsked, EntersLeft}

-- ---- a node

-- an entry more, and else as before
pub does_add : (asking : HubAsk) (e : Entry) (a b : Noding) → e.ask ≡ asking → Adds e a b → Does StaysBy asking a b
does_add asking e a b is adds = record {
  reply = e.reply;
  place = adds.place;
  grown = adds.entries ∙ ap (λ k. a.entries ++ record { ask = k; reply = e.reply } ∷ []) is;
  goes = (adds.query, adds.ends);
}

-- the node left its query if the answer is true
pub leave_does : (gone : Bool) (a b : Noding) → LeftOrNot gone a b → DoesLeave gone a.query a b
leave_does true a b left = record {
  does = record { reply = reply.Left (Ok tt); place = left.place; grown = left.entries; goes = (left.query, left.ends) };
  told = refl;
}
leave_does false a b stays = record {
  does = record { reply = reply.Left (Err stays.refusal); place = stays.adds.place; grown = stays.adds.entries; goes = (stays.adds.query, stays.adds.ends) };
  told = refl;
}

pub leave_told : (r : Result Bool AllocError) (a b : Noding) → IfOk r (λ left. LeftOrNot left a b) → IfOk r (λ gone. DoesLeave gone a.query a b)
leave_told (Ok gone) a b told = leave_does gone a b told
leave_told (Err e) a b told = told

-- ---- a session

pub left_so : (gone : Bool) (at : ℤ) (query : ℕ) (a b : Sessional) (node now : Noding) → at ≡ segment_at (node_of at) → slice_get a.nodes (node_of at) ≡ Some node → node.query ≡ query → DoesLeave gone node.query node now
    → b.nodes ≡ set a.nodes (node_of at) now → b.past ≡ a.past ++ record { step = step.Leave at; turned = None; entry = Some (length node.entries) } ∷ [] → EntersLeft gone at query a b
left_so gone at query a b node now back here in_it leaves nodes past =
    let does : DoesLeave gone query node now = subst (λ k. DoesLeave gone k node now) in_it leaves in
    record {
      does = record {
        reply = does.does.reply;
        enters = record { node = node; now = now; back = back; here = here; place = does.does.place; grown = does.does.grown; goes = does.does.goes; nodes = nodes; past = past };
      };
      told = does.told;
    }

pub entered : (Goes : HubReply → Noding → Noding → Type 0) (at : ℤ) (s : Step) (asking : HubAsk) (a b : Sessional) (node now : Noding) → at ≡ segment_at (node_of at) → slice_get a.nodes (node_of at) ≡ Some node → Does Goes asking node now
    → b.nodes ≡ set a.nodes (node_of at) now → b.past ≡ a.past ++ record { step = s; turned = None; entry = Some (length node.entries) } ∷ [] → EntersAsked Goes at s asking a b
entered Goes at s asking a b node now back here does nodes past = record {
  reply = does.reply;
  enters = record { node = node; now = now; back = back; here = here; place = does.place; grown = does.grown; goes = does.goes; nodes = nodes; past = past };
}
