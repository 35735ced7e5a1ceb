-- Any calls: what the separator keeps is of the words fed, and each event stands for something in them.
use Rattle.std.proofs.Common.{◌≡◌, ℕ, ◌+◌, ◌<◌, Bool, false, List, [], ◌∷◌, ◌++◌, take, refl, sym, subst, append_assoc, inl, inr}
use Rattle.track_separator.proofs.Common.{append-nil, IsAddress, Seen, Nothing, Mark, Address, Mode, Byte, End, NoData, Stage, Hunting, Addressed, TurnEnded, Waiting, Content, Separator, with_word, HuntsIn, SHunts, HuntSeenIn, SWaits, ReadsIn, SReads, WaitSeenIn, SWaitSeen, ReadSeenIn, SReadSeen, IsHuntedIn, IsHunted, STurnEnded, BeginsIn, SBegins, AwaitsByteIn, SAwaitsByte, FedIn, SFed, IsTold}
use Rattle.track_separator.specs.Past.{HuntsPast}
use Rattle.track_separator.proofs.Staged.{reads_first}
use Rattle.track_separator.proofs.Lawful.{part_with_word, some_address_stays}
use Rattle.track_separator.proofs.Ended.{right_behind}

told_of_hunt : (fed : List ℕ) (cells back : ℕ) (stage : Stage) (seen : Seen) → HuntSeenIn fed cells back stage seen → IsTold fed seen
told_of_hunt fed cells back stage Nothing h = tt
told_of_hunt fed cells back stage Mark h = h
told_of_hunt fed cells back stage (Address key) h = (h.0, h.1, h.2)
told_of_hunt fed cells back stage _ h = absurd h

of_wait : (fed : List ℕ) (p size cells back : ℕ) (stage : Stage) (seen : Seen) → IsAddress fed p → WaitSeenIn fed p size cells back stage seen → FedIn fed cells back stage × IsTold fed seen
of_wait fed p size cells back stage Nothing address h = (inr (inl (p, size, address, h)), tt)
of_wait fed p size cells back stage (Mode deleted) address h = (
  inr (inr (inl (p, h.0, deleted, size, 0, address, h.1))),
  (p, h.0, address, reads_first fed cells back p h.0 deleted size 0 stage h.1),
)
of_wait fed p size cells back stage NoData address h = (inl h.2, tt)
of_wait fed p size cells back stage _ address h = absurd h

of_read : (fed : List ℕ) (p q : ℕ) (deleted : Bool) (size taken cells back : ℕ) (stage : Stage) (seen : Seen) → IsAddress fed p → ReadSeenIn fed p q deleted size taken cells back stage seen → FedIn fed cells back stage × IsTold fed seen
of_read fed p q deleted size taken cells back stage (Byte value) address h = (
  inr (inr (inl (p, q, deleted, size, taken + 1, address, h.2))),
  (p, q, deleted, taken, address, reads_first fed cells back p q deleted size (taken + 1) stage h.2, h.1),
)
of_read fed p q deleted size taken cells back stage Nothing address h = (inr (inr (inl (p, q, deleted, size, taken + 1, address, h.1))), tt)
of_read fed p q deleted size taken cells back stage (End good) address h = (inl h.3, (p, q, deleted, size, address, h.1, h.2))
of_read fed p q deleted size taken cells back stage _ address h = absurd h

-- a word inside the revolution
pub fed_more : (old new : Separator) (word : ℕ) (seen : Seen) → IsHunted old word new seen → ((fed : List ℕ) (p size : ℕ) → SWaits old fed p size → SWaitSeen (with_word fed word) p size new seen) → ((fed : List ℕ) (p q : ℕ) (deleted : Bool) (size taken : ℕ) → SReads old fed p q deleted size taken → SReadSeen (with_word fed word) p q deleted size taken new seen) → (STurnEnded old → (seen ≡ NoData) × ((fed : List ℕ) → SHunts new fed)) → (fed : List ℕ) → SFed old fed → SFed new (with_word fed word) × IsTold (with_word fed word) seen
fed_more old new word seen hunted waits reads late fed (inl hunts) =
    (inl (hunted.keeps fed hunts), told_of_hunt (with_word fed word) new.cells new.back new.stage seen (hunted.tells fed hunts))
fed_more old new word seen hunted waits reads late fed (inr (inl (p, size, address, waiting))) =
    of_wait (with_word fed word) p size new.cells new.back new.stage seen (some_address_stays fed (with_word fed word) (part_with_word fed word) p address) (waits fed p size waiting)
fed_more old new word seen hunted waits reads late fed (inr (inr (inl (p, q, deleted, size, taken, address, reading)))) =
    of_read (with_word fed word) p q deleted size taken new.cells new.back new.stage seen (some_address_stays fed (with_word fed word) (part_with_word fed word) p address) (reads fed p q deleted size taken reading)
fed_more old new word seen hunted waits reads late fed (inr (inr (inr is_ended))) =
    let after = late is_ended in
    (inl (after.1 (with_word fed word)), subst (IsTold (with_word fed word)) (sym after.0) tt)

-- a data field is asked for
at_address : (fed : List ℕ) (cells back size : ℕ) → back < 16 → FedIn fed cells back Addressed → FedIn fed cells back (Waiting size back false)
at_address fed cells back size small (inl (p, address, here)) = inr (inl (p, size, address, (refl, right_behind fed cells back p small here)))
at_address fed cells back size small (inr (inl h)) = absurd h.3
at_address fed cells back size small (inr (inr (inl h))) = absurd h.6
at_address fed cells back size small (inr (inr (inr h))) = absurd h

pub asked_behind : (fed : List ℕ) (cells back size : ℕ) (old new : Stage) → back < 16 → old ≡ Addressed → new ≡ Waiting size back false → FedIn fed cells back old → FedIn fed cells back new
asked_behind fed cells back size old new small was is h =
    let At : Stage → Type 0 = λ stage. FedIn fed cells back stage in
    subst At (sym is) (at_address fed cells back size small (subst At was h))

pub asked_late : (fed : List ℕ) (cells back : ℕ) (new : Stage) → new ≡ TurnEnded → FedIn fed cells back new
asked_late fed cells back new is = let At : Stage → Type 0 = λ stage. FedIn fed cells back stage in subst At (sym is) (inr (inr (inr tt)))

-- ---- words that are taken at one stage alone

-- the separator hunts for a run of marks
hunts_of : (fed : List ℕ) (cells back : ℕ) (stage : Stage) → BeginsIn stage → FedIn fed cells back stage → HuntsIn fed cells back stage
hunts_of fed cells back Hunting begins (inl h) = h
hunts_of fed cells back Hunting begins (inr (inl h)) = absurd h.3
hunts_of fed cells back Hunting begins (inr (inr (inl h))) = absurd h.6
hunts_of fed cells back Hunting begins (inr (inr (inr h))) = absurd h
hunts_of fed cells back _ begins h = absurd begins

pub fed_hunt : (fed : List ℕ) (cells back : ℕ) (stage : Stage) (word after behind : ℕ) (next : Stage) (seen : Seen) → BeginsIn stage → IsHuntedIn cells back stage word after behind next seen → FedIn fed cells back stage → FedIn (with_word fed word) after behind next
fed_hunt fed cells back stage word after behind next seen begins hunted h = inl (hunted.keeps fed (hunts_of fed cells back stage begins h))

hunts_past : (words : List ℕ) (old new : Separator) (fed : List ℕ) → HuntsPast words old new → SHunts old fed → SHunts new (fed ++ words)
unfolding HuntsPast
hunts_past [] old new fed same h =
    let Now : List ℕ → Type 0 = λ whole. SHunts new whole in
    subst Now (sym (append-nil fed)) (subst (λ s. SHunts s fed) (sym same) h)
hunts_past (word ∷ rest) old new fed (mid, first, past) h =
    let Now : List ℕ → Type 0 = λ whole. SHunts new whole in
    subst Now (append_assoc fed (word ∷ []) rest) (hunts_past rest mid new (with_word fed word) past (first.keeps fed h))

pub fed_past : (words : List ℕ) (old new : Separator) → SBegins old → HuntsPast words old new → (fed : List ℕ) → SFed old fed → SFed new (fed ++ words)
fed_past words old new begins past fed h = inl (hunts_past words old new fed past (hunts_of fed old.cells old.back old.stage begins h))

-- no word was taken
pub fed_none : (words : List ℕ) (old : Separator) (fed : List ℕ) → SFed old fed → SFed old (fed ++ take 0 words)
fed_none words old fed h = let Now : List ℕ → Type 0 = λ whole. SFed old whole in subst Now (sym (append-nil fed)) h

-- a content is read
reads_of : (fed : List ℕ) (cells back : ℕ) (stage : Stage) → AwaitsByteIn stage → FedIn fed cells back stage
    → (p : ℕ) × (q : ℕ) × (deleted : Bool) × (size : ℕ) × (taken : ℕ) × IsAddress fed p × ReadsIn fed cells back p q deleted size taken stage
reads_of fed cells back (Content size taken check touched) awaits (inl h) = absurd h
reads_of fed cells back (Content size taken check touched) awaits (inr (inl h)) = absurd h.3
reads_of fed cells back (Content size taken check touched) awaits (inr (inr (inl h))) = h
reads_of fed cells back (Content size taken check touched) awaits (inr (inr (inr h))) = absurd h
reads_of fed cells back _ awaits h = absurd awaits

pub fed_byte : (old new : Separator) (word value : ℕ) → SAwaitsByte old → ((fed : List ℕ) (p q : ℕ) (deleted : Bool) (size taken : ℕ) → SReads old fed p q deleted size taken → SReadSeen (with_word fed word) p q deleted size taken new (Byte value)) → (fed : List ℕ) → SFed old fed → SFed new (with_word fed word) × IsTold (with_word fed word) (Byte value)
fed_byte old new word value awaits reads fed h =
    let (p, q, deleted, size, taken, address, reading) = reads_of fed old.cells old.back old.stage awaits h in
    of_read (with_word fed word) p q deleted size taken new.cells new.back new.stage (Byte value) (some_address_stays fed (with_word fed word) (part_with_word fed word) p address) (reads fed p q deleted size taken reading)
