-- What was put on a connection, by the history of the sender's node and by the steps of its worker.
use Rattle.std.proofs.Common.{◌≡◌, ℕ, ℤ, List, [], ◌∷◌, ◌++◌, Bool, true, false, ◌&&◌, ◌||◌, ◌==◌, cond, Ok, Err, refl, ap, sym, ◌∙◌}
use Rattle.std.specs.List.{AllByRecursion, flat_map, list_any}
use Rattle.std.specs.Ordering.{int_eq}
use Rattle.ic_base.specs.declared.keys.ConnKey.{ConnKey}
use Rattle.ic_base.specs.declared.keys.ConnEnd.{ConnEnd}
use Rattle.ic_base.specs.declared.port.PortAsk.{PortAsk}
use Rattle.ic_base.specs.declared.port.PortAsk.TheVariants as ask
use Rattle.ic_base.specs.declared.port.PortEntry.{PortEntry}
use Rattle.ic_law.specs.declared.history.HubAsk.{HubAsk}
use Rattle.ic_law.specs.declared.history.HubAsk.TheVariants.{Begin, Put, Finish, Take, TakeFrom, Halt, Arrive, Tick, Clear, Leave}
use Rattle.ic_law.specs.declared.history.HubReply.{HubReply}
use Rattle.ic_law.specs.declared.history.HubReply.TheVariants.{Begun, Gave, Took, Came, Ticked, Cleared, Left, Memory}
use Rattle.ic_law.specs.declared.history.HubNo.TheVariants as no
use Rattle.ic_law.specs.declared.history.Entry.{Entry}
use Rattle.ic_law.specs.Putting.{was_given, chunk_put, chunks_put_of, is_finish, finished_of}
use Rattle.ic_law.specs.Logs.{put_logs}
use Rattle.pl_parts.proofs.Bags.{flat_flat, flat-map}
use Rattle.pl_runs.specs.Steps as steps
use Rattle.pl_runs.specs.Steps.{Step, calls_of, is_done, chunk_of, ends_on, takes_of, parcels_by, put_on, finished_on}
use Rattle.pl_runs.specs.Logs.{sends_by, hears_by, hears_motion, logs_by, logs, log_of}
use Rattle.ic_law.proofs.Lists.{list_any-append}
use Rattle.gd_answer.proofs.Ends.{chosen, unchosen, AreOwn, sent_key, put_asks, take_asks, halt_asks, chosen_asks}

-- ---- what an entry of a log says

put_in : ℕ → ℤ → PortEntry → List (List ℕ)
put_in motion to e = cond (is_done e.reply) (chunk_of motion to e.ask) []

end_in : ℕ → ℤ → PortEntry → Bool
end_in motion to e = is_done e.reply && ends_on motion to e.ask

-- ---- chunks that were put

one_put : (key c : ConnKey) (chunk : List ℕ) (replied : HubReply) (same : Bool)
    → cond ((same && ((key.motion == c.motion) && int_eq key.to c.to)) && was_given replied) (chunk ∷ []) []
    ≡ flat_map (put_in c.motion c.to) (cond same (put_logs (ask.Put key.motion key.to chunk) key replied) [])
unfolding put_in
one_put key c chunk replied false = refl
one_put key c chunk (Gave (Ok ds)) true = chosen ((key.motion == c.motion) && int_eq key.to c.to) chunk
one_put key c chunk (Gave (Err no.Full)) true = unchosen ((key.motion == c.motion) && int_eq key.to c.to) chunk
one_put key c chunk (Gave (Err no.Empty)) true = unchosen ((key.motion == c.motion) && int_eq key.to c.to) chunk
one_put key c chunk (Gave (Err no.Stopped)) true = unchosen ((key.motion == c.motion) && int_eq key.to c.to) chunk
one_put key c chunk (Gave (Err no.Ended)) true = unchosen ((key.motion == c.motion) && int_eq key.to c.to) chunk
one_put key c chunk (Gave (Err (no.TooLong which))) true = unchosen ((key.motion == c.motion) && int_eq key.to c.to) chunk
one_put key c chunk (Gave (Err (no.Unknown query motion))) true = unchosen ((key.motion == c.motion) && int_eq key.to c.to) chunk
one_put key c chunk (Gave (Err no.Memory)) true = unchosen ((key.motion == c.motion) && int_eq key.to c.to) chunk
one_put key c chunk (Begun r) true = unchosen ((key.motion == c.motion) && int_eq key.to c.to) chunk
one_put key c chunk (Took r) true = unchosen ((key.motion == c.motion) && int_eq key.to c.to) chunk
one_put key c chunk (Came how ds) true = unchosen ((key.motion == c.motion) && int_eq key.to c.to) chunk
one_put key c chunk (Ticked r) true = unchosen ((key.motion == c.motion) && int_eq key.to c.to) chunk
one_put key c chunk (Cleared r) true = unchosen ((key.motion == c.motion) && int_eq key.to c.to) chunk
one_put key c chunk (Left r) true = unchosen ((key.motion == c.motion) && int_eq key.to c.to) chunk
one_put key c chunk Memory true = unchosen ((key.motion == c.motion) && int_eq key.to c.to) chunk

abbrev no_chunks : List (List ℕ)
no_chunks = []

none_either : (b : Bool) → cond b no_chunks [] ≡ []
none_either true = refl
none_either false = refl

-- if each entry is of its ask, and the ask puts nothing, nothing is put
puts_none : (motion : ℕ) (to : ℤ) (asked : PortAsk) (log : List PortEntry) → chunk_of motion to asked ≡ [] → AllByRecursion (λ (e : PortEntry). e.ask ≡ asked) log → flat_map (put_in motion to) log ≡ []
unfolding put_in
puts_none motion to asked [] none all = refl
puts_none motion to asked (e ∷ log) none all = ap (λ l. l ++ flat_map (put_in motion to) log) (ap (λ a. cond (is_done e.reply) (chunk_of motion to a) []) all.0 ∙ ap (λ l. cond (is_done e.reply) l []) none ∙ none_either (is_done e.reply)) ∙ puts_none motion to asked log none all.1

-- ---- ends of streams that were put

and_or : (b : Bool) → (b && true) ≡ (b || false)
and_or true = refl
and_or false = refl

and_no : (b : Bool) → (b && false) ≡ false
and_no true = refl
and_no false = refl

one_end : (key c : ConnKey) (replied : HubReply) (same : Bool)
    → ((same && ((key.motion == c.motion) && int_eq key.to c.to)) && was_given replied) ≡ list_any (end_in c.motion c.to) (cond same (put_logs (ask.Finish key.motion key.to) key replied) [])
unfolding end_in
one_end key c replied false = refl
one_end key c (Gave (Ok ds)) true = and_or ((key.motion == c.motion) && int_eq key.to c.to)
one_end key c (Gave (Err no.Full)) true = and_no ((key.motion == c.motion) && int_eq key.to c.to)
one_end key c (Gave (Err no.Empty)) true = and_no ((key.motion == c.motion) && int_eq key.to c.to)
one_end key c (Gave (Err no.Stopped)) true = and_no ((key.motion == c.motion) && int_eq key.to c.to)
one_end key c (Gave (Err no.Ended)) true = and_no ((key.motion == c.motion) && int_eq key.to c.to)
one_end key c (Gave (Err (no.TooLong which))) true = and_no ((key.motion == c.motion) && int_eq key.to c.to)
one_end key c (Gave (Err (no.Unknown query motion))) true = and_no ((key.motion == c.motion) && int_eq key.to c.to)
one_end key c (Gave (Err no.Memory)) true = and_no ((key.motion == c.motion) && int_eq key.to c.to)
one_end key c (Begun r) true = and_no ((key.motion == c.motion) && int_eq key.to c.to)
one_end key c (Took r) true = and_no ((key.motion == c.motion) && int_eq key.to c.to)
one_end key c (Came how ds) true = and_no ((key.motion == c.motion) && int_eq key.to c.to)
one_end key c (Ticked r) true = and_no ((key.motion == c.motion) && int_eq key.to c.to)
one_end key c (Cleared r) true = and_no ((key.motion == c.motion) && int_eq key.to c.to)
one_end key c (Left r) true = and_no ((key.motion == c.motion) && int_eq key.to c.to)
one_end key c Memory true = and_no ((key.motion == c.motion) && int_eq key.to c.to)

ends_none : (motion : ℕ) (to : ℤ) (asked : PortAsk) (log : List PortEntry) → ends_on motion to asked ≡ false → AllByRecursion (λ (e : PortEntry). e.ask ≡ asked) log → list_any (end_in motion to) log ≡ false
unfolding end_in
ends_none motion to asked [] none all = refl
ends_none motion to asked (e ∷ log) none all = ap (λ b. b || list_any (end_in motion to) log) (ap (λ a. is_done e.reply && ends_on motion to a) all.0 ∙ ap (λ b. is_done e.reply && b) none ∙ and_no (is_done e.reply)) ∙ ends_none motion to asked log none all.1

-- an end in the steps is one in their calls
of_steps : (motion : ℕ) (to : ℤ) (ss : List Step) → list_any (end_in motion to) (calls_of ss) ≡ finished_on motion to ss
unfolding end_in
of_steps motion to [] = refl
of_steps motion to (s ∷ ss) = ap (λ b. steps.finishes motion to s || b) (of_steps motion to ss)

-- ---- one entry

module _ (ends : List ConnEnd) (c : ConnKey) (own : AreOwn c.session c.query c.from ends) (mine : sends_by ends c ≡ true) where
  entry_puts : (asked : HubAsk) (replied : HubReply) → chunk_put c asked replied ≡ flat_map (put_in c.motion c.to) (logs_by ends asked replied)
  entry_puts (Begin q es) replied = refl
  entry_puts (Put key chunk) replied = ap (λ b. cond (b && was_given replied) (chunk ∷ []) []) (sent_key ends c key own mine) ∙ one_put key c chunk replied (sends_by ends key)
  entry_puts (Finish key) replied = sym (puts_none c.motion c.to (ask.Finish key.motion key.to) _ refl (chosen_asks _ (sends_by ends key) _ (put_asks (ask.Finish key.motion key.to) key replied)))
  entry_puts (Take q motion) replied = sym (puts_none c.motion c.to (ask.Take motion) _ refl (chosen_asks _ (hears_motion ends q motion) _ (take_asks (ask.Take motion) replied)))
  entry_puts (TakeFrom key) replied = sym (puts_none c.motion c.to (ask.TakeFrom key.motion key.from) _ refl (chosen_asks _ (hears_by ends key) _ (take_asks (ask.TakeFrom key.motion key.from) replied)))
  entry_puts (Halt key) replied = sym (puts_none c.motion c.to (ask.Halt key.motion key.from) _ refl (chosen_asks _ (hears_by ends key) _ (halt_asks (ask.Halt key.motion key.from) replied)))
  entry_puts (Arrive d) replied = refl
  entry_puts Tick replied = refl
  entry_puts (Clear q) replied = refl
  entry_puts (Leave q) replied = refl

  all_puts : (h : List Entry) → chunks_put_of c h ≡ flat_map (put_in c.motion c.to) (log_of ends h)
  all_puts h = (λ i. flat_map (λ (e : Entry). entry_puts e.ask e.reply i) h) ∙ sym (flat_flat (logs ends) (put_in c.motion c.to) h)

  -- ends of streams

  entry_ends : (asked : HubAsk) (replied : HubReply) → is_finish c asked replied ≡ list_any (end_in c.motion c.to) (logs_by ends asked replied)
  entry_ends (Begin q es) replied = refl
  entry_ends (Put key chunk) replied = sym (ends_none c.motion c.to (ask.Put key.motion key.to chunk) _ refl (chosen_asks _ (sends_by ends key) _ (put_asks (ask.Put key.motion key.to chunk) key replied)))
  entry_ends (Finish key) replied = ap (λ b. b && was_given replied) (sent_key ends c key own mine) ∙ one_end key c replied (sends_by ends key)
  entry_ends (Take q motion) replied = sym (ends_none c.motion c.to (ask.Take motion) _ refl (chosen_asks _ (hears_motion ends q motion) _ (take_asks (ask.Take motion) replied)))
  entry_ends (TakeFrom key) replied = sym (ends_none c.motion c.to (ask.TakeFrom key.motion key.from) _ refl (chosen_asks _ (hears_by ends key) _ (take_asks (ask.TakeFrom key.motion key.from) replied)))
  entry_ends (Halt key) replied = sym (ends_none c.motion c.to (ask.Halt key.motion key.from) _ refl (chosen_asks _ (hears_by ends key) _ (halt_asks (ask.Halt key.motion key.from) replied)))
  entry_ends (Arrive d) replied = refl
  entry_ends Tick replied = refl
  entry_ends (Clear q) replied = refl
  entry_ends (Leave q) replied = refl

  all_ends : (h : List Entry) → finished_of c h ≡ list_any (end_in c.motion c.to) (log_of ends h)
  all_ends [] = refl
  all_ends (e ∷ h) = ap (λ b. b || finished_of c h) (entry_ends e.ask e.reply) ∙ ap (λ b. list_any (end_in c.motion c.to) (logs ends e) || b) (all_ends h) ∙ sym (list_any-append (end_in c.motion c.to) (logs ends e) (log_of ends h))

  -- what the steps put on the connection is what the history says
  module _ (taken : List Step) (h : List Entry) (log : calls_of taken ≡ log_of ends h) where
    pub put_so : chunks_put_of c h ≡ put_on c.motion c.to taken
    unfolding put_in
    put_so = all_puts h ∙ ap (flat_map (put_in c.motion c.to)) (sym log) ∙ flat-map (put_in c.motion c.to) (λ (s : Step). s.entry) taken

    pub finished_so : finished_of c h ≡ finished_on c.motion c.to taken
    finished_so = all_ends h ∙ ap (list_any (end_in c.motion c.to)) (sym log) ∙ of_steps c.motion c.to taken
