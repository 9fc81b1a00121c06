use Rattle.std.proofs.Common.{length, ap, sym, ◌∙◌, slice_get, arith}
use Rattle.std.proofs.lemmas.Option.{slice_get_within}
use Rattle.ic_hub.specs.Hubbing.{Hubbing, Living}
use Rattle.ic_hub.proofs.Counted.{looked_at}
use Rattle.ic_hub.proofs.hub.Hub.count_sent.Goals as goal

pub index-requires : goal.index-requires
index-requires c =
    let within = slice_get_within c.args.self.now.live c.in_ok-query.query c.in_ok-query.ensures.living c.in_ok-query.ensures.live in
    let live = ap (λ (s : Hubbing). length s.live) c.self.view_is in
    omega (arith, within, live, c.self.inside.live.ok.0)

pub sent-requires : goal.sent-requires
sent-requires c =
    let found = c.in_ok-query.ensures in
    let same = looked_at c.args.self.now.live c.self.inside.live.items c.in_ok-query.query found.living c.index.result.now (ap (λ (s : Hubbing). s.live) (sym c.self.view_is)) found.live c.index.ensures in
    record { here = slice_get_within c.index.result.now.senders c.in_ok-query.place found.sender (ap (λ (l : Living). slice_get l.senders c.in_ok-query.place) (sym same) ∙ found.here) }

pub returns : goal.returns
returns c =
    let found = c.in_ok-query.ensures in
    let same = looked_at c.args.self.now.live c.self.inside.live.items c.in_ok-query.query found.living c.index.result.now (ap (λ (s : Hubbing). s.live) (sym c.self.view_is)) found.live c.index.ensures in
    record {
      query = c.in_ok-query.query;
      place = c.in_ok-query.place;
      sender = found;
      count = c.sent.ensures found.sender (ap (λ (l : Living). slice_get l.senders c.in_ok-query.place) (sym same) ∙ found.here);
    }
