use Rattle.std.proofs.Common.{◌<◌, refl, sym, subst, slice_set}
use Rattle.std.proofs.lemmas.Option.{slice_get_within}
use Rattle.ic_header.specs.Packets.{key_of}
use Rattle.ic_hub.specs.declared.finding.Found.TheVariants.{Here}
use Rattle.ic_hub.specs.Hubbing.{Hubbing}
use Rattle.ic_hub.specs.Finding.{IsFound}
use Rattle.ic_hub.specs.Coming.{ComesToQuery, AtReceiver, AtSender}
use Rattle.ic_hub.proofs.ComingSteps.{read_at, receiver_there, sender_there, receiver_within, sender_within, receiver_hub, sender_hub}
use Rattle.ic_hub.proofs.hub.Hub.hear_there.Goals as goal

pub index_mut-requires : goal.index_mut-requires
index_mut-requires c =
    let s = c.self.inside in
    let hub : Hubbing = record { session = s.session; at = s.at; settings = s.settings; tick = s.tick; dropped = s.dropped; top = s.table.top; live = s.live.items } in
    let it = subst (λ (x : Hubbing). IsFound x (key_of c.args.head.now) (Here c.args.query c.args.sides)) (sym c.self.view_is) c.requires.found in
    let found = receiver_there hub s.table c.args.head.now c.args.query c.in-Some.place c.args.sides c.self.invariant it c.in-Some.is in
    subst (λ n. c.args.query < n) (sym s.live.ok.0) (slice_get_within hub.live c.args.query found.living found.live)

pub hear_sender-requires-clause-here : goal.hear_sender-requires-clause-here
hear_sender-requires-clause-here c =
    let s = c.self.inside in
    let hub : Hubbing = record { session = s.session; at = s.at; settings = s.settings; tick = s.tick; dropped = s.dropped; top = s.table.top; live = s.live.items } in
    let it = subst (λ (x : Hubbing). IsFound x (key_of c.args.head.now) (Here c.args.query c.args.sides)) (sym c.self.view_is) c.requires.found in
    let found = receiver_there hub s.table c.args.head.now c.args.query c.in-Some.place c.args.sides c.self.invariant it c.in-Some.is in
    let at = read_at hub.live c.args.query c.index_mut.result.now (slice_get_within hub.live c.args.query found.living found.live) c.index_mut.ensures.value in
    receiver_within hub (key_of c.args.head.now) c.args.query c.in-Some.place c.index_mut.result.now found at

pub invariant_of-self : goal.invariant_of-self
invariant_of-self c =
    let s = c.self.inside in
    let hub : Hubbing = record { session = s.session; at = s.at; settings = s.settings; tick = s.tick; dropped = s.dropped; top = s.table.top; live = s.live.items } in
    let it = subst (λ (x : Hubbing). IsFound x (key_of c.args.head.now) (Here c.args.query c.args.sides)) (sym c.self.view_is) c.requires.found in
    let found = receiver_there hub s.table c.args.head.now c.args.query c.in-Some.place c.args.sides c.self.invariant it c.in-Some.is in
    let at = read_at hub.live c.args.query c.index_mut.result.now (slice_get_within hub.live c.args.query found.living found.live) c.index_mut.ensures.value in
    receiver_hub hub s.table c.args.query c.in-Some.place c.args.head.now c.args.body.now c.index_mut.result.now c.hear_sender.new.self c.hear_sender.result c.self.invariant at c.hear_sender.ensures

pub returns-in-Some : goal.returns-in-Some
returns-in-Some c =
    let s = c.self.inside in
    let hub : Hubbing = record { session = s.session; at = s.at; settings = s.settings; tick = s.tick; dropped = s.dropped; top = s.table.top; live = s.live.items } in
    let it = subst (λ (x : Hubbing). IsFound x (key_of c.args.head.now) (Here c.args.query c.args.sides)) (sym c.self.view_is) c.requires.found in
    let found = receiver_there hub s.table c.args.head.now c.args.query c.in-Some.place c.args.sides c.self.invariant it c.in-Some.is in
    let at = read_at hub.live c.args.query c.index_mut.result.now (slice_get_within hub.live c.args.query found.living found.live) c.index_mut.ensures.value in
    subst (λ (x : Hubbing). ComesToQuery x c.args.query c.args.sides c.args.head.now c.args.body.now c.hear_sender.result (record hub { live = slice_set hub.live c.args.query c.hear_sender.new.self })) c.self.view_is
    (AtReceiver (sym c.if-goes_forth.ensures) c.in-Some.place c.index_mut.result.now c.hear_sender.new.self c.in-Some.is at c.hear_sender.ensures refl)

pub index_mut-requires-in-Some-sender : goal.index_mut-requires-in-Some-sender
index_mut-requires-in-Some-sender c =
    let s = c.self.inside in
    let hub : Hubbing = record { session = s.session; at = s.at; settings = s.settings; tick = s.tick; dropped = s.dropped; top = s.table.top; live = s.live.items } in
    let it = subst (λ (x : Hubbing). IsFound x (key_of c.args.head.now) (Here c.args.query c.args.sides)) (sym c.self.view_is) c.requires.found in
    let found = sender_there hub s.table c.args.head.now c.args.query c.in-Some-sender.place c.args.sides c.self.invariant it c.in-Some-sender.is in
    subst (λ n. c.args.query < n) (sym s.live.ok.0) (slice_get_within hub.live c.args.query found.living found.live)

pub hear_receiver-requires-clause-here : goal.hear_receiver-requires-clause-here
hear_receiver-requires-clause-here c =
    let s = c.self.inside in
    let hub : Hubbing = record { session = s.session; at = s.at; settings = s.settings; tick = s.tick; dropped = s.dropped; top = s.table.top; live = s.live.items } in
    let it = subst (λ (x : Hubbing). IsFound x (key_of c.args.head.now) (Here c.args.query c.args.sides)) (sym c.self.view_is) c.requires.found in
    let found = sender_there hub s.table c.args.head.now c.args.query c.in-Some-sender.place c.args.sides c.self.invariant it c.in-Some-sender.is in
    let at = read_at hub.live c.args.query c.index_mut-in-Some-sender.result.now (slice_get_within hub.live c.args.query found.living found.live) c.index_mut-in-Some-sender.ensures.value in
    sender_within hub (key_of c.args.head.now) c.args.query c.in-Some-sender.place c.index_mut-in-Some-sender.result.now found at

pub invariant_of-self-in-Some-sender : goal.invariant_of-self-in-Some-sender
invariant_of-self-in-Some-sender c =
    let s = c.self.inside in
    let hub : Hubbing = record { session = s.session; at = s.at; settings = s.settings; tick = s.tick; dropped = s.dropped; top = s.table.top; live = s.live.items } in
    let it = subst (λ (x : Hubbing). IsFound x (key_of c.args.head.now) (Here c.args.query c.args.sides)) (sym c.self.view_is) c.requires.found in
    let found = sender_there hub s.table c.args.head.now c.args.query c.in-Some-sender.place c.args.sides c.self.invariant it c.in-Some-sender.is in
    let at = read_at hub.live c.args.query c.index_mut-in-Some-sender.result.now (slice_get_within hub.live c.args.query found.living found.live) c.index_mut-in-Some-sender.ensures.value in
    sender_hub hub s.table c.args.query c.in-Some-sender.place c.args.head.now c.args.body.now c.index_mut-in-Some-sender.result.now c.hear_receiver.new.self c.hear_receiver.result c.self.invariant at c.hear_receiver.ensures

pub returns-in-Some-sender : goal.returns-in-Some-sender
returns-in-Some-sender c =
    let s = c.self.inside in
    let hub : Hubbing = record { session = s.session; at = s.at; settings = s.settings; tick = s.tick; dropped = s.dropped; top = s.table.top; live = s.live.items } in
    let it = subst (λ (x : Hubbing). IsFound x (key_of c.args.head.now) (Here c.args.query c.args.sides)) (sym c.self.view_is) c.requires.found in
    let found = sender_there hub s.table c.args.head.now c.args.query c.in-Some-sender.place c.args.sides c.self.invariant it c.in-Some-sender.is in
    let at = read_at hub.live c.args.query c.index_mut-in-Some-sender.result.now (slice_get_within hub.live c.args.query found.living found.live) c.index_mut-in-Some-sender.ensures.value in
    subst (λ (x : Hubbing). ComesToQuery x c.args.query c.args.sides c.args.head.now c.args.body.now c.hear_receiver.result (record hub { live = slice_set hub.live c.args.query c.hear_receiver.new.self })) c.self.view_is
    (AtSender (sym c.if-goes_forth.ensures) c.in-Some-sender.place c.index_mut-in-Some-sender.result.now c.hear_receiver.new.self c.in-Some-sender.is at c.hear_receiver.ensures refl)
