-- What an answer reads as where it is emitted, and what it then tells of its connection.
use Rattle.std.proofs.Common.{◌≡◌, ℕ, ◌+◌, List, [], ◌∷◌, ◌++◌, length, false, ◌||◌, Some, ap, sym, ◌∙◌, subst, inl}
use Rattle.std.specs.List.{Contains, list_any}
use Rattle.std.specs.Int.{w32, to_be_bytes}
use Rattle.ic_base.specs.declared.keys.ConnKey.{ConnKey}
use Rattle.ic_base.specs.declared.keys.ConnEnd.{ConnEnd}
use Rattle.ic_base.specs.declared.datagram.Datagram.{Datagram}
use Rattle.ic_header.specs.declared.flags.Flags.{Flags}
use Rattle.ic_header.specs.declared.flags.Flags.TheVariants.{Ack, Stop, Disorder, Duplicate}
use Rattle.ic_header.proofs.Joining.{reads_spelled}
use Rattle.ic_law.specs.declared.history.Entry.{Entry}
use Rattle.ic_header.specs.Packets.{Packet, packet_read, packet_of, header_for}
use Rattle.ic_law.specs.History.{emits}
use Rattle.ic_law.specs.Taking.{IsHaltAsked}
use Rattle.ic_law.specs.Storing.{tells_stored, packet_tells_stored, datagram_tells_stored}
use Rattle.ic_law.specs.Points.{Emits, RunHad, Tells, StopsAsked}
use Rattle.ic_law.specs.Receiving.{consumed_of}
use Rattle.ic_law.proofs.Lists.{Contains-none, Contains-one}
use Rattle.ic_header.specs.Packets.{IsAnswer}

-- ---- reading

abbrev made : ConnEnd → Flags → ℕ → ℕ → List ℕ → Packet
made end flags seq extra body = record { head = header_for end flags (length body) seq extra; body = body }

pub answer_reads : (end : ConnEnd) (flags : Flags) (seq extra : ℕ) (body : List ℕ) (d : Datagram) → IsAnswer end flags seq extra body d → packet_of d ≡ Some (made end flags seq extra body)
unfolding packet_of
answer_reads end flags seq extra body d a = ap packet_read (reads_spelled (header_for end flags (length body) seq extra) body d.bytes a.spelled)

-- whether it says that a packet was stored
pub answer_tells : (end : ConnEnd) (flags : Flags) (seq extra : ℕ) (body : List ℕ) (d : Datagram) → IsAnswer end flags seq extra body d → list_any datagram_tells_stored (d ∷ []) ≡ (tells_stored flags || false)
answer_tells end flags seq extra body d a = ap (λ o. packet_tells_stored o || false) (answer_reads end flags seq extra body d a)

-- ---- what is emitted

-- the packet is the answer
pub record Shows (flags : Flags) (seq extra : ℕ) (body : List ℕ) (f : Flags) (p : Packet) : Type 0 where
  pub flags_are : flags ≡ f
  pub seq_is : p.head.seq ≡ seq
  pub extra_is : p.head.extra ≡ extra
  pub body_is : p.body ≡ body

shown : (end : ConnEnd) (flags : Flags) (seq extra : ℕ) (body : List ℕ) (d : Datagram) (e : Entry) → IsAnswer end flags seq extra body d → emits e ≡ d ∷ []
    → (c : ConnKey) (f : Flags) (p : Packet) → Emits e c f p → Shows flags seq extra body f p
shown end flags seq extra body d e a one c f p w =
    let same : w.datagram ≡ d = Contains-one d w.datagram (subst (λ l. Contains l w.datagram) one w.stands) in
    let reads : Some p ≡ Some (made end flags seq extra body) = sym w.reads ∙ ap packet_of same ∙ answer_reads end flags seq extra body d a in
    let is : p ≡ made end flags seq extra body = cc in
    record {
      flags_are = ap (λ (x : Packet). x.head.flags) (sym is) ∙ w.flags_are;
      seq_is = ap (λ (x : Packet). x.head.seq) is;
      extra_is = ap (λ (x : Packet). x.head.extra) is;
      body_is = ap (λ (x : Packet). x.body) is;
    }

pub shown_none : (e : Entry) (c : ConnKey) (f : Flags) (p : Packet) → emits e ≡ [] → Emits e c f p → ⊥
shown_none e c f p none w = Contains-none w.datagram (subst (λ l. Contains l w.datagram) none w.stands)

-- ---- what is told

-- an entry that tells and stops as it may, with the history that it ends
pub record Lawful (c : ConnKey) (now : List Entry) (e : Entry) : Type 0 where
  pub told : Tells c now e
  pub stopped : StopsAsked c now e

pub lawful_none : (c : ConnKey) (now : List Entry) (e : Entry) → emits e ≡ [] → Lawful c now e
lawful_none c now e none = record {
  told = record { ack = λ p w. absurd (shown_none e c Ack p none w); duplicate = λ p w. absurd (shown_none e c Duplicate p none w); disorder = λ p w. absurd (shown_none e c Disorder p none w) };
  stopped = λ p w. absurd (shown_none e c Stop p none w);
}

pub lawful_stop : (end : ConnEnd) (seq : ℕ) (d : Datagram) (now : List Entry) (e : Entry) → IsAnswer end Stop seq 0 [] d → emits e ≡ d ∷ [] → IsHaltAsked end.key now → Lawful end.key now e
lawful_stop end seq d now e a one asked = record {
  told = record {
    ack = λ p w. absurd (let bad : Stop ≡ Ack = (shown end Stop seq 0 [] d e a one end.key Ack p w).flags_are in cc);
    duplicate = λ p w. absurd (let bad : Stop ≡ Duplicate = (shown end Stop seq 0 [] d e a one end.key Duplicate p w).flags_are in cc);
    disorder = λ p w. absurd (let bad : Stop ≡ Disorder = (shown end Stop seq 0 [] d e a one end.key Disorder p w).flags_are in cc);
  };
  stopped = λ p w. inl asked;
}

pub lawful_ack : (end : ConnEnd) (run taken : ℕ) (d : Datagram) (now : List Entry) (e : Entry) → IsAnswer end Ack run taken [] d → emits e ≡ d ∷ [] → RunHad end.key run now → taken ≡ consumed_of end.key now
    → Lawful end.key now e
lawful_ack end run taken d now e a one had count = record {
  told = record {
    ack = λ p w. let is = shown end Ack run taken [] d e a one end.key Ack p w in (subst (λ r. RunHad end.key r now) (sym is.seq_is) had, is.extra_is ∙ count);
    duplicate = λ p w. absurd (let bad : Ack ≡ Duplicate = (shown end Ack run taken [] d e a one end.key Duplicate p w).flags_are in cc);
    disorder = λ p w. absurd (let bad : Ack ≡ Disorder = (shown end Ack run taken [] d e a one end.key Disorder p w).flags_are in cc);
  };
  stopped = λ p w. absurd (let bad : Ack ≡ Stop = (shown end Ack run taken [] d e a one end.key Stop p w).flags_are in cc);
}

pub lawful_duplicate : (end : ConnEnd) (seq run : ℕ) (d : Datagram) (now : List Entry) (e : Entry) → IsAnswer end Duplicate seq run [] d → emits e ≡ d ∷ [] → RunHad end.key run now → Lawful end.key now e
lawful_duplicate end seq run d now e a one had = record {
  told = record {
    ack = λ p w. absurd (let bad : Duplicate ≡ Ack = (shown end Duplicate seq run [] d e a one end.key Ack p w).flags_are in cc);
    duplicate = λ p w. subst (λ r. RunHad end.key r now) (sym (shown end Duplicate seq run [] d e a one end.key Duplicate p w).extra_is) had;
    disorder = λ p w. absurd (let bad : Duplicate ≡ Disorder = (shown end Duplicate seq run [] d e a one end.key Disorder p w).flags_are in cc);
  };
  stopped = λ p w. absurd (let bad : Duplicate ≡ Stop = (shown end Duplicate seq run [] d e a one end.key Stop p w).flags_are in cc);
}

pub lawful_disorder : (end : ConnEnd) (seq greatest run : ℕ) (body more : List ℕ) (d : Datagram) (now : List Entry) (e : Entry) → IsAnswer end Disorder seq greatest body d → emits e ≡ d ∷ []
    → body ≡ to_be_bytes w32 (run + 1) ++ more → RunHad end.key run now → Lawful end.key now e
lawful_disorder end seq greatest run body more d now e a one first had = record {
  told = record {
    ack = λ p w. absurd (let bad : Disorder ≡ Ack = (shown end Disorder seq greatest body d e a one end.key Ack p w).flags_are in cc);
    duplicate = λ p w. absurd (let bad : Disorder ≡ Duplicate = (shown end Disorder seq greatest body d e a one end.key Duplicate p w).flags_are in cc);
    disorder = λ p w. (run, more, (shown end Disorder seq greatest body d e a one end.key Disorder p w).body_is ∙ first, had);
  };
  stopped = λ p w. absurd (let bad : Disorder ≡ Stop = (shown end Disorder seq greatest body d e a one end.key Stop p w).flags_are in cc);
}
