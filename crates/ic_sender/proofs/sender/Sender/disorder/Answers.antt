use Rattle.std.proofs.Common.{◌≡◌, ◌-◌, List, ℕ, ap, sym, ◌∙◌, refl, subst, Ok, arith, take}
use Rattle.std.specs.Prelude.{Some}
use Rattle.std.specs.Int.{w32, from_be_bytes}
use Rattle.ic_expire.specs.Items.{is_upto}
use Rattle.ic_expire.specs.Queue.{without}
use Rattle.ic_law.specs.Numbers.{words_in}
use Rattle.ic_sender.specs.Sending.{Sending, Answer, hearing, datagrams_again, run_with}
use Rattle.ic_sender.specs.Calls.{Hears, Gives, IsStrayListing, IsStrayDisorder, missing_of}
use Rattle.ic_sender.proofs.Answering.{disorder_run}
use Rattle.ic_sender.proofs.sender.Sender.disorder.Goals as goal

pub returns-then-is_stray : goal.returns-then-is_stray
returns-then-is_stray c =
    let s = c.args.self.now in
    let numbers : c.as_slice.result.now ≡ words_in c.args.missing.now = c.as_slice.ensures.value ∙ c.in_ok-numbers.ensures in
    Hears.Strayed (sym (ap (λ (x : Sending). x.stopped) c.self.view_is) ∙ c.if-self.false) (subst (IsStrayListing s.sent c.args.seq c.args.extra) numbers (c.is_stray.ensures.yes c.if-is_stray.true)) refl refl refl

pub hear-requires-clause-run : goal.hear-requires-clause-run
hear-requires-clause-run c =
    let s = c.args.self.now in
    let numbers : c.as_slice.result.now ≡ words_in c.args.missing.now = c.as_slice.ensures.value ∙ c.in_ok-numbers.ensures in
    let fine : IsStrayDisorder s c.args.seq c.args.extra c.args.missing.now → ⊥ = (λ h. c.is_stray.ensures.no c.if-is_stray.false (subst (IsStrayListing s.sent c.args.seq c.args.extra) (sym numbers) h)) in
    let run = disorder_run s c.args.seq c.args.extra c.args.missing.now c.requires.allowed.0 c.requires.allowed.1 fine in
    let same : c.saturating_sub.result ≡ from_be_bytes w32 (take 4 c.args.missing.now) - 1 = c.saturating_sub.ensures ∙ ap (λ n. n - 1) c.word.ensures in
    omega (arith, run, same)

pub returns : goal.returns
returns c =
    let s = c.args.self.now in
    let q = c.args.expiry.now in
    let numbers : c.as_slice.result.now ≡ words_in c.args.missing.now = c.as_slice.ensures.value ∙ c.in_ok-numbers.ensures in
    let fine : IsStrayDisorder s c.args.seq c.args.extra c.args.missing.now → ⊥ = (λ h. c.is_stray.ensures.no c.if-is_stray.false (subst (IsStrayListing s.sent c.args.seq c.args.extra) (sym numbers) h)) in
    let run : c.saturating_sub.result ≡ from_be_bytes w32 (take 4 c.args.missing.now) - 1 = c.saturating_sub.ensures ∙ ap (λ n. n - 1) c.word.ensures in
    let lists : c.as_slice-2.result.now ≡ words_in c.args.missing.now = c.as_slice-2.ensures.value ∙ c.in_ok-numbers.ensures in
    let answer : ℕ → List ℕ → Answer = (λ r l. record { run = r; consumed = 0; names = Some c.args.seq; lists = l }) in
    let same : answer c.saturating_sub.result c.as_slice-2.result.now ≡ missing_of c.args.seq c.args.missing.now = ap (λ r. answer r c.as_slice-2.result.now) run ∙ ap (answer (from_be_bytes w32 (take 4 c.args.missing.now) - 1)) lists in
    let gives = subst (λ a. Gives (hearing c.args.now a s) (without (is_upto s.conn (run_with a s)) q.held) c.args.now (datagrams_again c.args.now a s) c.in_ok-hear.field-0 c.hear.new.self q c.hear.new.expiry) same c.in_ok-hear.ensures.ok in
    Hears.Heard (sym (ap (λ (x : Sending). x.stopped) c.self.view_is) ∙ c.if-self.false) fine (ap Ok gives.datagrams) gives.state gives.waits

pub hear-requires-clause-alone : goal.hear-requires-clause-alone
hear-requires-clause-alone c = c.requires.alone (sym (ap (λ (x : Sending). x.stopped) c.self.view_is) ∙ c.if-self.false)

pub hear-requires-clause-room : goal.hear-requires-clause-room
hear-requires-clause-room c = c.requires.room (sym (ap (λ (x : Sending). x.stopped) c.self.view_is) ∙ c.if-self.false)
