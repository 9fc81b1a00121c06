use Rattle.std.proofs.Common.{rules, ap, sym, ◌∙◌, refl, subst, ◌≡◌, ◌<◌, Some, [], ◌∷◌, length}
use Rattle.atomic_table.specs.Table.{rest}
use Rattle.ic_turn.specs.declared.view.Bench.{Bench}
use Rattle.ic_turn.proofs.PartLemmas.{own_more}
use Rattle.ic_turn.proofs.Keeps.{serves, bench_or, done, called_as}
use Rattle.ic_turn.proofs.board.serve.Goals as goal

pub exchange-taken-requires : goal.exchange-taken-requires
exchange-taken-requires g c =
    let d = c.requires.drawn in
    (c.requires.of, (Some d.1, d.3 ∙ ap (λ l. (0, Some d.1) ∷ rest l) (sym d.3)))

pub fetch_add-requires : goal.fetch_add-requires
fetch_add-requires g c =
    let d = c.requires.drawn in
    let e1 = c.exchange-taken.ensures in
    let b : Bench g.row.M.Denot g.row.M-Ask.Denot g.row.M-Reply.Denot = record { machine = c.act-reply.new.self; last = Some (c.of-asked.result, c.of-replied.result) } in
    let only : rest c.args.seat.now.me.1 ≡ [] = ap rest d.3 in
    let me2 : c.exchange-left.new.seat.me ≡ (c.args.seat.now.me.0, (0, Some b) ∷ []) = c.exchange-left.ensures.3 ∙ (λ j. ((ap (λ m. m.0) e1.3) j, (0, Some b) ∷ (ap (λ m. rest m.1) e1.3 ∙ only) j)) in
    let same_b : d.1 ≡ c.in-Some.bench = ap (bench_or d.1) (sym d.3 ∙ (e1.2 ∙ ap (λ o. (0, o) ∷ rest c.args.seat.now.me.1) c.in-Some.is)) in (
      search rules,
      search rules,
      serves g.M.Machine.kept g.M.Machine.state g.M.Machine.stands _ _ _ _ _ d.0 (g.M.Machine.state d.1.machine) b c.args.ask c.act-reply.result (search rules) (ap (λ m. m.0.stage) me2 ∙ d.2) (ap (λ m. m.1) me2)
          ((c.of-asked.result, c.of-replied.result), refl, c.of-asked.ensures, c.of-replied.ensures)
          (λ log h.
          (c.act-reply.ensures.stands log (subst (λ k. g.M.Machine.stands k (g.M.Machine.state c.in-Some.bench.machine) log) c.act-reply.ensures.kept (subst (λ z. g.M.Machine.stands (g.M.Machine.kept c.act-reply.new.self) (g.M.Machine.state z.machine) log) same_b h))))
          (ap (λ m. m.0.kept) me2 ∙ (d.4 ∙ (ap (λ z. Some (g.M.Machine.kept z.machine)) same_b ∙ ap Some (sym c.act-reply.ensures.kept))))
          (subst (λ m. 0 < length m.0.parts) (sym me2) d.5),
    )

pub returns-clause-called : goal.returns-clause-called
returns-clause-called g c =
    let d = c.requires.drawn in
    let e1 = c.exchange-taken.ensures in
    let b : Bench g.row.M.Denot g.row.M-Ask.Denot g.row.M-Reply.Denot = record { machine = c.act-reply.new.self; last = Some (c.of-asked.result, c.of-replied.result) } in
    let only : rest c.args.seat.now.me.1 ≡ [] = ap rest d.3 in
    let me2 : c.exchange-left.new.seat.me ≡ (c.args.seat.now.me.0, (0, Some b) ∷ []) = c.exchange-left.ensures.3 ∙ (λ j. ((ap (λ m. m.0) e1.3) j, (0, Some b) ∷ (ap (λ m. rest m.1) e1.3 ∙ only) j)) in
    let out = c.fetch_add.ensures.2 d.0 _ (ap (λ m. m.0.stage) me2 ∙ d.2) b c.args.ask c.act-reply.result (ap (λ m. m.1) me2) ((c.of-asked.result, c.of-replied.result), refl, c.of-asked.ensures, c.of-replied.ensures) in
    let now : c.fetch_add.new.seat.me.0 ≡ done d.0 c.args.ask c.act-reply.result c.args.seat.now.me.0 = out.0 ∙ ap (λ m. done d.0 c.args.ask c.act-reply.result m.0) me2 in (
      called_as d.0 c.args.ask c.act-reply.result c.args.seat.now.me.0 c.fetch_add.new.seat.me.0 now,
      ap (λ v. v.met) now,
      (ap (λ v. v.stage) now, out.1, subst (λ v. 0 < length v.parts) (sym now) (own_more _ _ d.5)),
    )
