-- Attempts at a read, one after the other.
use Rattle.std.proofs.Common.{◌≡◌, ℕ, ◌+◌, ◌-◌, ◌<◌, ◌≤◌, ◌++◌, Bool, List, length, take, drop, min, Ok, Err, refl, sym, ap, ◌∙◌, subst, arith, inl, inr}
use Rattle.floppy_driver.proofs.Common.{get_or-take, get_or-drop, length-take, length-drop, same_number_lists, Chrn, Code, NoMark, NotFound, BadCrc, Look, content_size, one_look_at, Counters, DisturbedLess, CostsUpTo, GoesOn, SameOutside, goes_on_after, faults_go_on, HasClearAddress, HasLook, AllFound, IsReadReason, read_port_accesses, read_time, StationState, bay_of, met, IsRead, ReadsDrive, HasAsked, IsSure, IsReadWhole, IsReadFailed, TriesRead}
use Rattle.track_model.specs.declared.Look.TheVariants as look
use Rattle.flop_base.specs.Lists.{with_items}
use Rattle.floppy_driver.proofs.TriedReads.{HasTriedRead}
use Rattle.floppy_driver.proofs.Shows.{driven_after, driven_within}
use Rattle.floppy_driver.proofs.Rising.{disturbed_later, less_later}
use Rattle.floppy_driver.proofs.Attempts.{spoilt_none, spoilt_more, all_sure, last_sure}

-- ---- memory outside the range

pub same_outside_itself : (memory : List ℕ) (address count : ℕ) → SameOutside address count memory memory
same_outside_itself memory address count = record { length = refl; others = λ k is. refl }

outside_after : (a b c : List ℕ) (address count : ℕ) → SameOutside address count a b → SameOutside address count b c → SameOutside address count a c
outside_after a b c address count one two = record {
  length = two.length ∙ one.length;
  others = λ k is. two.others k is ∙ one.others k is;
}

-- what the range held before it was overwritten doesn't matter
with_items_outside : (old mid : List ℕ) (address : ℕ) (bytes : List ℕ) (count : ℕ) → SameOutside address count old mid → length bytes ≡ count → with_items mid address bytes ≡ with_items old address bytes
unfolding with_items
with_items_outside old mid address bytes count same long =
    let end = address + length bytes in
    let front : take address mid ≡ take address old =
    same_number_lists (take address mid) (take address old)
    (length-take address mid ∙ ap (λ n. min address n) same.length ∙ sym (length-take address old))
    (λ k within.
    let low : k < address = omega (arith, length-take address mid) in
    get_or-take address mid k 0 low ∙ same.others k (inl low) ∙ sym (get_or-take address old k 0 low)) in
    let back : drop end mid ≡ drop end old =
    same_number_lists (drop end mid) (drop end old)
    (length-drop end mid ∙ ap (λ n. n - end) same.length ∙ sym (length-drop end old))
    (λ k within.
    let high : address + count ≤ end + k = omega arith in
    get_or-drop end mid k 0 ∙ same.others (end + k) (inr high) ∙ sym (get_or-drop end old k 0)) in
    ap (λ row. row ++ (bytes ++ drop end mid)) front ∙ ap (λ row. take address old ++ (bytes ++ row)) back

-- ---- a good track is no reason

not_found : (track : List ℕ) (key : Chrn) (looked : Look) → HasLook track key looked → ((deleted : Bool) (place : ℕ) → looked ≡ look.Found deleted place → ⊥) → AllFound track key → ⊥
not_found track key looked has not all =
    let found = all has.0 has.1 in
    not found.0 found.1 (one_look_at track has.0 key.n looked (look.Found found.0 found.1) has.2 found.2)

good_track : (track : List ℕ) (key : Chrn) (code : Code) → HasClearAddress track key → AllFound track key → IsReadReason track key code → ⊥
good_track track key NoMark clear all (inl none) = none clear.0 clear.1.clear
good_track track key NoMark clear all (inr looked) = not_found track key look.NoData looked (λ deleted place e. cc e) all
good_track track key NotFound clear all reason = reason.1 clear
good_track track key BadCrc clear all reason = not_found track key look.BadCrc reason (λ deleted place e. cc e) all
good_track track key _ clear all reason = reason

-- ---- attempt after attempt

module _ (start : StationState) (bay : ℕ) (key : Chrn) (address : ℕ) where
  abbrev the_track : List ℕ
  the_track = met (bay_of start bay) key.c key.h

  pub tried_none : (code : Code) (now : StationState) → HasAsked start now → HasTriedRead bay key address 0 start code now
  tried_none code now asked =
      let memory : now.memory ≡ start.memory = ap (λ (s : StationState). s.memory) asked.stays in
      record {
        memory = subst (λ (m : List ℕ). SameOutside address (content_size key.n) start.memory m) (sym memory) (same_outside_itself start.memory address (content_size key.n));
        becomes = asked.stays ∙ ap (λ (m : List ℕ). record start { memory = m; counters = now.counters }) (sym memory);
        counts = asked.counts;
        driven = asked.idle;
        spoilt = λ clear all. spoilt_none start.tries bay start.counters now.counters asked.counts;
        unsent = λ some. absurd (omega arith);
        last = λ some. absurd (omega arith);
      }

  -- from a station that differs from `start` only in memory and counters
  module _ (memory : List ℕ) (counters : Counters) (goes : GoesOn start.counters counters) where
    abbrev between : StationState
    between = record start { memory = memory; counters = counters }

    failed_since : (sure : Type 0) (code : Code) (new : StationState) → GoesOn counters new.counters → IsReadFailed sure bay key between code new → IsReadFailed sure bay key start code new
    failed_since sure code new more failed =
        let f = faults_go_on start.counters counters bay goes in
        let s = goes.stalls in
        record {
          device = failed.device;
          reason = λ is quiet. failed.reason is (disturbed_later bay start.counters counters new.counters goes more 1 quiet);
          overrun = λ is. let r = failed.overrun is in omega arith;
          lost = λ is. let r = failed.lost is in omega arith;
          sent = λ other. let r = failed.sent other in let d = goes.data_commands in omega arith;
        }

    read_since : (deleted : Bool) (new : StationState) → SameOutside address (content_size key.n) start.memory memory → GoesOn counters new.counters → IsReadWhole bay key address between deleted new → IsRead bay key address start deleted new
    read_since deleted new same more done =
        let read = done.read in
        let d = goes.data_commands in
        let less = less_later bay start.counters counters new.counters goes more 1 in
        record {
          disk = read.disk;
          cylinder = read.cylinder;
          place = read.place;
          mark = read.mark;
          content = read.content;
          medium = read.medium;
          same_rate = read.same_rate;
          track = read.track;
          address_field = read.address_field;
          data_mark = read.data_mark;
          whole = read.whole;
          steady = λ steady. read.steady (record { kept = steady.kept; acknowledged = steady.acknowledged; count = steady.count; below = steady.below });
          sector = λ is. read.sector (elim is [ inl faultless ↦ inl (less faultless) | inr lone ↦ inr lone ]);
          becomes = read.becomes ∙ ap (λ (m : List ℕ). record start { memory = m; counters = new.counters }) (with_items_outside start.memory memory address read.content (content_size key.n) same done.size);
          commands = let c = read.commands in omega arith;
        }

    tried_after : (count : ℕ) (code failed : Code) (new : StationState) → 1 ≤ start.tries → HasTriedRead bay key address count start code between → TriesRead (IsSure start.tries (count + 1)) bay key address between (Err failed) new → HasTriedRead bay key address (count + 1) start failed new
    tried_after count code failed new some tried attempt =
        let all = goes_on_after start.counters counters new.counters goes attempt.counts in
        record {
          memory = outside_after start.memory memory new.memory address (content_size key.n) tried.memory attempt.memory;
          becomes = attempt.becomes;
          counts = all;
          driven = driven_after count 1 start.counters counters new.counters goes attempt.counts tried.driven attempt.driven;
          spoilt = λ clear found.
              spoilt_more start.tries count bay start.counters counters new.counters some goes attempt.counts all (tried.spoilt clear found)
              (λ sure quiet. good_track the_track key failed clear found (attempt.failed.reason sure quiet));
          unsent = λ one is.
              let idle = (attempt.unsent (ap (λ c. Err c) is)).most_commands in
              let before = tried.driven.most_commands in
              omega arith;
          last = λ one. failed_since (IsSure start.tries (count + 1)) failed new attempt.counts attempt.failed;
        }

    done_after : (count : ℕ) (code : Code) (sure : Type 0) (deleted : Bool) (new : StationState) → count + 1 ≤ start.tries → HasTriedRead bay key address count start code between → TriesRead sure bay key address between (Ok deleted) new → CostsUpTo (read_time start bay) (read_port_accesses start) start.counters new.counters → ReadsDrive bay key address start (Ok deleted) new
    done_after count code sure deleted new few tried attempt costs = record {
      found = read_since deleted new tried.memory attempt.counts attempt.done;
      refused = tt;
      driven = driven_within (count + 1) start.tries start.counters new.counters few (driven_after count 1 start.counters counters new.counters goes attempt.counts tried.driven attempt.driven);
      costs = costs;
    }

  -- one more attempt failed
  tried_more : (count : ℕ) (code failed : Code) (mid new : StationState) → 1 ≤ start.tries → HasTriedRead bay key address count start code mid → TriesRead (IsSure start.tries (count + 1)) bay key address mid (Err failed) new → HasTriedRead bay key address (count + 1) start failed new
  tried_more count code failed mid new some tried attempt =
      tried_after mid.memory mid.counters tried.counts count code failed new some
      (subst (λ (s : StationState). HasTriedRead bay key address count start code s) tried.becomes tried)
      (subst (λ (s : StationState). TriesRead (IsSure start.tries (count + 1)) bay key address s (Err failed) new) tried.becomes attempt)

  -- one more attempt was done
  read_done : (count : ℕ) (code : Code) (sure : Type 0) (deleted : Bool) (mid new : StationState) → count + 1 ≤ start.tries → HasTriedRead bay key address count start code mid → TriesRead sure bay key address mid (Ok deleted) new → CostsUpTo (read_time start bay) (read_port_accesses start) start.counters new.counters → ReadsDrive bay key address start (Ok deleted) new
  read_done count code sure deleted mid new few tried attempt costs =
      done_after mid.memory mid.counters tried.counts count code sure deleted new few
      (subst (λ (s : StationState). HasTriedRead bay key address count start code s) tried.becomes tried)
      (subst (λ (s : StationState). TriesRead sure bay key address s (Ok deleted) new) tried.becomes attempt) costs

  -- all attempts failed
  read_failed : (code : Code) (now : StationState) → 1 ≤ start.tries → HasTriedRead bay key address start.tries start code now → CostsUpTo (read_time start bay) (read_port_accesses start) start.counters now.counters → ReadsDrive bay key address start (Err code) now
  read_failed code now some tried costs =
      let failed = tried.last some in
      let reason = failed.reason (last_sure start.tries some) in
      record {
        found = tt;
        refused = record {
          cause = record {
            device = failed.device;
            no_mark = λ is quiet. subst (λ (c : Code). IsReadReason the_track key c) is (reason quiet);
            not_found = λ is quiet. subst (λ (c : Code). IsReadReason the_track key c) is (reason quiet);
            bad_data = λ is quiet. subst (λ (c : Code). IsReadReason the_track key c) is (reason quiet);
            overrun = failed.overrun;
            lost = failed.lost;
            unsent = tried.unsent some;
            sent = failed.sent;
            never = λ clear all less. tried.spoilt clear all (subst (λ (n : ℕ). DisturbedLess n bay start.counters now.counters) (sym (all_sure start.tries some)) less);
          };
          memory = tried.memory;
          becomes = tried.becomes;
        };
        driven = tried.driven;
        costs = costs;
      }

  -- ---- the same, by the number of the attempt

  pub tried_next : (attempt tries : ℕ) (code failed : Code) (mid new : StationState) → 1 ≤ attempt → 1 ≤ tries → tries ≡ start.tries → HasTriedRead bay key address (attempt - 1) start code mid → TriesRead (IsSure tries attempt) bay key address mid (Err failed) new → HasTriedRead bay key address (attempt + 1 - 1) start failed new
  tried_next attempt tries code failed mid new first some same tried once =
      let here : attempt ≡ attempt - 1 + 1 = omega arith in
      let there : attempt - 1 + 1 ≡ attempt + 1 - 1 = omega arith in
      subst (λ (a : ℕ). HasTriedRead bay key address a start failed new) there (tried_more (attempt - 1) code failed mid new (omega arith) tried (rw (same, here) at once))

  pub done_at : (attempt tries : ℕ) (code : Code) (sure : Type 0) (deleted : Bool) (mid new : StationState) → 1 ≤ attempt → attempt ≤ tries → tries ≡ start.tries → HasTriedRead bay key address (attempt - 1) start code mid → TriesRead sure bay key address mid (Ok deleted) new → CostsUpTo (read_time start bay) (read_port_accesses start) start.counters new.counters → ReadsDrive bay key address start (Ok deleted) new
  done_at attempt tries code sure deleted mid new first last same tried once costs =
      read_done (attempt - 1) code sure deleted mid new (omega arith) tried once costs

  pub failed_all : (attempt tries : ℕ) (code : Code) (now : StationState) → attempt ≡ tries + 1 → 1 ≤ tries → tries ≡ start.tries → HasTriedRead bay key address (attempt - 1) start code now → CostsUpTo (read_time start bay) (read_port_accesses start) start.counters now.counters → ReadsDrive bay key address start (Err code) now
  failed_all attempt tries code now past some same tried costs =
      let all : attempt - 1 ≡ start.tries = omega arith in
      read_failed code now (omega arith) (subst (λ (a : ℕ). HasTriedRead bay key address a start code now) all tried) costs
