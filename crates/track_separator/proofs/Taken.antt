-- A word that isn't the last of its revolution, taken at any stage.
use Rattle.std.proofs.Common.{◌≡◌, ℕ, Bool, false, List, sym, ◌∙◌}
use Rattle.track_separator.proofs.Common.{false≢true, Seen, NoData, Separator, with_word, SHunts, SWaits, SReads, SWaitSeen, SReadSeen, IsHunted, STurnEnded, Feeds}
use Rattle.track_separator.proofs.Told.{fed_more}
use Rattle.track_separator.proofs.Started.{stands_of}

pub inside_feeds : (index : Bool) (word : ℕ) (old new : Separator) (seen : Seen) → index ≡ false → IsHunted old word new seen → ((fed : List ℕ) (p size : ℕ) → SWaits old fed p size → SWaitSeen (with_word fed word) p size new seen) → ((fed : List ℕ) (p q : ℕ) (deleted : Bool) (size taken : ℕ) → SReads old fed p q deleted size taken → SReadSeen (with_word fed word) p q deleted size taken new seen) → (STurnEnded old → (seen ≡ NoData) × ((fed : List ℕ) → SHunts new fed)) → Feeds index word old new seen
inside_feeds index word old new seen inside hunted waits reads late =
    let more = fed_more old new word seen hunted waits reads late in
    record {
      keeps = λ fed h. rw inside (hunted.keeps fed h);
      stands = λ fed h. stands_of (with_word fed word) _ _ _ seen (hunted.tells fed h);
      address = λ fed h e. hunted.tells fed h;
      follows = λ fed h. rw inside (hunted.follows fed h);
      turns = λ last. absurd (false≢true (sym inside ∙ last));
      begins = λ last. absurd (false≢true (sym inside ∙ last));
      gives = hunted.gives;
      waits = λ fed p size is. rw inside (waits fed p size is);
      reads = λ fed p q deleted size taken is. rw inside (reads fed p q deleted size taken is);
      turn_ended = late;
      any = λ fed h. rw inside (more fed h).0;
      told = λ fed h. (more fed h).1;
    }
