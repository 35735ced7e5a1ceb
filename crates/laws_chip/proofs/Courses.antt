-- From sector to sector: the sectors that are over, and the bytes that passed.
use Rattle.std.proofs.Common.{◌≡◌, inl, inr, ℕ, zero, suc, ◌+◌, ◌-◌, ◌<◌, nat_lt, Bool, true, false, not, ◌||◌, ◌==◌, if◌then◌else◌, Option, Some, None, List, [], ◌∷◌, ◌++◌, length, replicate, refl, sym, ◌∙◌, ap, subst, arith, append_assoc, append-nil, length-append}
use Rattle.laws_chip.proofs.Common.{and_parts, eq-eqb, eqb-false, eqb-true, false≢true, ltb-true, ne_eqb, not-true, flat_map_more, length-replicate, nil_from_length, IsSizeCode, content_size, Past, new_past, Done, WritesWhole, Sent, told_in, IsContent, goes_on, has_met_other, would_go_on, Accounts, AreLeft, AreMoved, History, IsFieldDone, IsMoved, IsMovedWhole, IsOfOther, IsPassedOver, IsWholeField, Means, Part, all_bytes, bytes_moved, bytes_of_parts, has_other, sector_after, sent_of, is_last, is_other, is_skipping, next_cylinder, next_of, next_record, other_head, size_of, Operation, Read, Write, MovingSector, Transfer, Command, is_idle, Fdc, CommandsIf, Front, GivesTransfer, Starts, is_ready, is_ready_at, taken_at, FrontStage, Through, Telling, Reads, Serves, ServesAt, FrontTransfersIf as TransfersIf, SectorCallsCall as Call, SectorCallsDoes as Does}
use Rattle.std.proofs.lemmas.List.Folds.{list_any-append}
use Rattle.laws_chip.proofs.Known.{MarkGoes, either_way}
use Rattle.laws_chip.proofs.Started.{size_is, size_some}
use Rattle.laws_chip.specs.SectorCalls.{Commands, Ends, Transfers}

-- ---- the sectors

next_opcode : (at : Transfer) → (next_of at).opcode ≡ at.opcode
next_opcode at = by_place (at.key.r == at.last_sector) at.opcode.multitrack
  where
    by_place : (a b : Bool) → (if a then (if b then other_head at else next_cylinder at) else next_record at).opcode ≡ at.opcode
    by_place true true = refl
    by_place true false = refl
    by_place false b = refl

-- each sector is moved by the same command
pub sector_opcode : (n : ℕ) (first : Transfer) → (sector_after n first).opcode ≡ first.opcode
sector_opcode zero first = refl
sector_opcode (suc n) first = sector_opcode n (next_of first) ∙ next_opcode first

-- the sector after one sector more
pub sector_more : (first : Transfer) (parts : List Part) (part : Part) → sector_after (length (parts ++ part ∷ [])) first ≡ next_of (sector_after (length parts) first)
sector_more first [] part = refl
sector_more first (other ∷ parts) part = sector_more (next_of first) parts part

pub moved_more : (operation : Operation) (first : Transfer) (parts : List Part) (part : Part) → AreMoved operation first parts → part.at ≡ sector_after (length parts) first → IsMoved operation part
    → AreMoved operation first (parts ++ part ∷ [])
moved_more operation first [] part were at is = (at, is, tt)
moved_more operation first (other ∷ parts) part (here, was, rest) at is = (here, was, moved_more operation (next_of first) parts part rest at is)

-- ---- the bytes

pub none_more : (operation : Operation) (history : History) → all_bytes operation history ≡ all_bytes operation history ++ []
none_more operation history = sym (append-nil (all_bytes operation history))

-- bytes of the sector under way pass
pub bytes_more : (operation : Operation) (parts : List Part) (past now : Past) (counted told : Bool) (passed : List ℕ) → bytes_moved operation now ≡ bytes_moved operation past ++ passed
    → all_bytes operation (record { parts = parts; past = now; counted = told }) ≡ all_bytes operation (record { parts = parts; past = past; counted = counted }) ++ passed
bytes_more operation parts past now counted told passed is =
    ap (λ bytes. bytes_of_parts operation parts ++ bytes) is ∙ sym (append_assoc (bytes_of_parts operation parts) (bytes_moved operation past) passed)

nothing : (operation : Operation) → bytes_moved operation new_past ≡ []
nothing (Read wanted skip) = refl
nothing (Write deleted) = refl

-- the next sector begins, and no further byte has passed
pub bytes_next : (operation : Operation) (parts : List Part) (part : Part) (past : Past) (counted told : Bool) → bytes_moved operation part.past ≡ bytes_moved operation past
    → all_bytes operation (record { parts = parts ++ part ∷ []; past = new_past; counted = told }) ≡ all_bytes operation (record { parts = parts; past = past; counted = counted }) ++ []
bytes_next operation parts part past counted told same =
    ap (λ bytes. bytes_of_parts operation (parts ++ part ∷ []) ++ bytes) (nothing operation)
    ∙ (ap (λ bytes. bytes ++ []) (sym (flat_map_more (λ part. bytes_moved operation part.past) [] parts part))
    ∙ ap (λ bytes. (bytes_of_parts operation parts ++ bytes) ++ []) same)

-- ---- the marks

pub or_none : (b : Bool) → (b || false) ≡ b
or_none true = refl
or_none false = refl

-- a field of the other mark was met before, or the last sector has one
pub other_more : (operation : Operation) (parts : List Part) (part : Part) → has_other operation (parts ++ part ∷ []) ≡ (has_other operation parts || is_other operation part.marked)
other_more operation parts part =
    list_any-append (λ part. is_other operation part.marked) parts (part ∷ []) ∙ ap (λ b. has_other operation parts || b) (or_none (is_other operation part.marked))

write_other : (deleted : Bool) (mark : Option Bool) → IsOfOther (Write deleted) mark → ⊥
write_other deleted mark (marked, is, other) = false≢true other

none_other : (operation : Operation) (mark : Option Bool) → mark ≡ None → IsOfOther operation mark → ⊥
none_other operation mark none (marked, is, other) = cc (none, is)

-- ---- what is left of a sector

same_accounts : (operation : Operation) (met : Bool) (moving : MovingSector) (past now : Past) (mark : Option Bool) → bytes_moved operation now ≡ bytes_moved operation past → now.counted ≡ past.counted
    → Accounts operation met moving past mark → Accounts operation met moving now mark
same_accounts operation met moving past now mark bytes counted was = record {
  sized = was.sized;
  bytes = subst (AreLeft operation met moving mark) (sym bytes) was.bytes;
  clean = λ skips other. bytes ∙ was.clean skips other;
  told = counted ∙ was.told;
}

-- a mark that is met now changes nothing
left_unmarked : (operation : Operation) (met : Bool) (moving : MovingSector) (mark then_mark : Option Bool) (bytes : List ℕ) → (IsOfOther operation mark → ⊥) → AreLeft operation met moving mark bytes
    → AreLeft operation met moving then_mark bytes
left_unmarked operation met moving mark then_mark bytes none (inl all) = inl all
left_unmarked operation met moving mark then_mark bytes none (inr (skipped, passed, skips, other, over, empty)) = absurd (none other)

-- what is left of the sector, after a device step
pub accounts_on : (operation : Operation) (met : Bool) (moving : MovingSector) (past now : Past) (mark then_mark : Option Bool) → MarkGoes operation (bytes_moved operation past) mark then_mark
    → bytes_moved operation now ≡ bytes_moved operation past → now.counted ≡ past.counted → Accounts operation met moving past mark → Accounts operation met moving now then_mark
accounts_on (Read wanted skip) met moving past now mark then_mark (inl (none, empty)) bytes counted was =
    let same = same_accounts (Read wanted skip) met moving past now mark bytes counted was in
    record {
      sized = same.sized;
      bytes = left_unmarked (Read wanted skip) met moving mark then_mark now.given (none_other (Read wanted skip) mark none) same.bytes;
      clean = λ skips other. bytes ∙ empty;
      told = same.told;
    }
accounts_on (Read wanted skip) met moving past now mark then_mark (inr stays) bytes counted was = grind (arith, same_accounts)
accounts_on (Write deleted) met moving past now mark then_mark goes bytes counted was =
    let same = same_accounts (Write deleted) met moving past now mark bytes counted was in
    record {
      sized = same.sized;
      bytes = left_unmarked (Write deleted) met moving mark then_mark now.taken (write_other deleted mark) same.bytes;
      clean = λ skips. absurd (false≢true skips);
      told = same.told;
    }

some_left : (left : ℕ) → nat_lt 0 left ≡ true → 0 < left
some_left left some = ltb-true 0 left some

pub one_passed : (operation : Operation) (met : Bool) (moving : MovingSector) (mark : Option Bool) (bytes : List ℕ) (byte : ℕ) → nat_lt 0 moving.left ≡ true → AreLeft operation met moving mark bytes
    → AreLeft operation met (record moving { left = moving.left - 1 }) mark (bytes ++ byte ∷ [])
one_passed operation met moving mark bytes byte some (inl (own, passed, all)) =
    let more = length-append bytes (byte ∷ []) in let left = some_left moving.left some in inl (own, passed, omega arith)
one_passed operation met moving mark bytes byte some (inr (skipped, passed, skips, other, none, empty)) = let left = some_left moving.left some in absurd (omega arith)

pub not_over : {A : Type 0} (left : ℕ) → nat_lt 0 left ≡ true → left ≡ 0 → A
not_over left some none = let more = some_left left some in absurd (omega arith)

-- the terminal count, after a byte
pub one_told : (counted : Bool) (left : ℕ) (past now : Past) → nat_lt 0 left ≡ true → now.counted ≡ past.counted → past.counted ≡ (counted || (left == 0)) → (b : Bool) → (left - 1 == 0) ≡ b
    → (told_in b now).counted ≡ (counted || (left - 1 == 0))
one_told true left past now some same told true is = refl
one_told true left past now some same told false is = same ∙ told
one_told false left past now some same told true is = sym is
one_told false left past now some same told false is = same ∙ (told ∙ (ne_eqb left 0 (not_over left some) ∙ sym is))

pub over_told : (counted : Bool) → true ≡ (counted || true)
over_told true = refl
over_told false = refl

pub no_bytes : (n : ℕ) → IsSizeCode n → content_size n ≡ 0 → ⊥
no_bytes n sized none = eqb-false (size_of n) 0 (size_some n sized) (size_is n sized ∙ none)

-- ---- a sector that is over

-- what was handed in, where it is so much longer than what was taken
pub handed_is : (counted : Bool) (taken handed : List ℕ) (missing : ℕ) → IsContent counted taken handed → length taken + missing ≡ length handed → handed ≡ taken ++ replicate missing 0
handed_is counted taken handed missing (inl (rest, is)) sizes =
    let lengths = ap length is in
    let joined = length-append handed rest in
    let no_rest : rest ≡ [] = nil_from_length rest (omega arith) in
    let no_more : missing ≡ 0 = omega arith in
    sym (append-nil handed) ∙ (ap (λ r. handed ++ r) (sym no_rest) ∙ (sym is ∙ (sym (append-nil taken) ∙ ap (λ n. taken ++ replicate n 0) (sym no_more))))
handed_is counted taken handed missing (inr (over, (zeros, is))) sizes =
    let lengths = ap length is in
    let joined = length-append taken (replicate zeros 0) in
    let long : length {A = ℕ} (replicate zeros 0) ≡ zeros = length-replicate zeros 0 in
    let same : zeros ≡ missing = omega arith in
    is ∙ ap (λ n. taken ++ replicate n 0) same

-- the controller was given the terminal count
pub done_counted : (operation : Operation) (past : Past) (sent : Sent) (marked : Bool) → Means operation past sent (Done marked) → past.counted ≡ true
done_counted (Read wanted skip) past sent marked means = means.0
done_counted (Write deleted) past sent marked means = means.cause.1

-- a write's window has these bytes, and 00 in place of those that are missing
pub done_written : (deleted : Bool) (past : Past) (sent : Sent) (marked : Bool) (missing : ℕ) → Means (Write deleted) past sent (Done marked) → length past.taken + missing ≡ content_size sent.key.n
    → WritesWhole past sent.key deleted (past.taken ++ replicate missing 0)
done_written deleted past sent marked missing means sizes =
    let long = means.cause.2.1.size in
    subst (WritesWhole past sent.key deleted) (handed_is past.counted past.taken means.handed missing means.content (sizes ∙ sym long)) means.whole

whole_field : (operation : Operation) (past : Past) (sent : Sent) (marked : Bool) → Means operation past sent (Done marked) → length (bytes_moved operation past) ≡ content_size sent.key.n
    → IsWholeField operation past sent.key marked
whole_field (Read wanted skip) past sent marked means all = means
whole_field (Write deleted) past sent marked means all =
    subst (WritesWhole past sent.key deleted) (append-nil past.taken) (done_written deleted past sent marked 0 means (let size = all in omega arith))

-- a command would go on only if the terminal count didn't come, and after a field of the other mark only if it passes
-- such fields over
would_as : (moving : MovingSector) (marked : Bool) → would_go_on moving marked ≡ true
    → (moving.counted ≡ false) × ((not (is_other moving.transfer.opcode.operation marked) || is_skipping moving.transfer.opcode.operation) ≡ true)
would_as moving marked would =
    let operation = moving.transfer.opcode.operation in
    let (uncounted, mark) = and_parts (not moving.counted) (not (is_other operation marked) || is_skipping operation) would in
    (not-true moving.counted uncounted, mark)

pub goes_would : (moving : MovingSector) (marked : Bool) → goes_on moving marked ≡ true → would_go_on moving marked ≡ true
goes_would moving marked goes = (and_parts (would_go_on moving marked) (not (is_last moving.transfer)) goes).0

pub would_uncounted : (moving : MovingSector) (marked : Bool) → would_go_on moving marked ≡ true → moving.counted ≡ false
would_uncounted moving marked would = (would_as moving marked would).0

skips_other : (a b : Bool) → (not a || b) ≡ true → a ≡ true → b ≡ true
skips_other true b is other = is
skips_other false b is other = absurd (false≢true other)

or_true : (c : Bool) → (c || true) ≡ true
or_true true = refl
or_true false = refl

-- where no byte is left the controller was given the terminal count
pub over_counted : (operation : Operation) (met : Bool) (moving : MovingSector) (past : Past) (mark : Option Bool) → Accounts operation met moving past mark → moving.left ≡ 0 → past.counted ≡ true
over_counted operation met moving past mark accounts none =
    accounts.told ∙ (ap (λ b. moving.counted || b) (eq-eqb moving.left 0 none) ∙ or_true moving.counted)

-- where the terminal count didn't come, no byte is left of a field that is done
pub nothing_left : (operation : Operation) (met : Bool) (moving : MovingSector) (past : Past) (mark : Option Bool) (marked : Bool) → moving.counted ≡ false → Accounts operation met moving past mark
    → IsFieldDone moving.skipped operation past (sent_of moving.transfer) marked → moving.left ≡ 0
nothing_left operation met moving past mark marked uncounted accounts done = by_left accounts.bytes
  where
    by_left : AreLeft operation met moving mark (bytes_moved operation past) → moving.left ≡ 0
    by_left (inl (own, passed, all)) =
        let at = sent_of moving.transfer in
        let means : Means operation past at (Done marked) = subst (λ b. IsFieldDone b operation past at marked) own done in
        eqb-true moving.left 0 (sym (ap (λ b. b || (moving.left == 0)) uncounted) ∙ (sym accounts.told ∙ done_counted operation past at marked means))
    by_left (inr (skipped, passed, skips, other, none, empty)) = none

-- all bytes of the field passed
whole_moved : (operation : Operation) (met : Bool) (moving : MovingSector) (past : Past) (mark : Option Bool) (marked : Bool) → (is_other operation marked ≡ true → is_skipping operation ≡ true)
    → moving.left ≡ 0 → mark ≡ Some marked → Accounts operation met moving past mark → length (bytes_moved operation past) + moving.left ≡ content_size moving.transfer.key.n
    → Means operation past (sent_of moving.transfer) (Done marked) → IsMovedWhole operation (record { at = moving.transfer; past = past; marked = marked })
whole_moved operation met moving past mark marked skips over is accounts sizes means =
    let size : length (bytes_moved operation past) ≡ content_size moving.transfer.key.n = omega arith in
    record {
      field = whole_field operation past (sent_of moving.transfer) marked means size;
      wanted = either_way (is_other operation marked)
          (λ other. let empty = ap length (accounts.clean (skips other) (marked, is, other)) in absurd (no_bytes moving.transfer.key.n accounts.sized (omega arith)))
          (λ wanted. wanted);
      all = size;
    }

-- no byte passed of a field that is passed over
pub skipped_over : (operation : Operation) (met : Bool) (moving : MovingSector) (past : Past) (mark : Option Bool) (marked : Bool) → mark ≡ Some marked → Accounts operation met moving past mark
    → IsFieldDone moving.skipped operation past (sent_of moving.transfer) marked → moving.skipped ≡ true → is_skipping operation ≡ true → IsOfOther operation mark → moving.left ≡ 0
    → bytes_moved operation past ≡ [] → IsPassedOver operation past moving.transfer.key marked
skipped_over operation met moving past mark marked is accounts done skipped skips (met_mark, here, unwanted) none empty =
    let same : met_mark ≡ marked = cc (here, is) in
    record {
      skips = skips;
      other = ap (is_other operation) (sym same) ∙ unwanted;
      found = subst (λ b. IsFieldDone b operation past (sent_of moving.transfer) marked) skipped done;
      counted = over_counted operation met moving past mark accounts none;
      none = empty;
    }

-- where the command would go on, the whole sector was moved, or it was passed over
pub part_moved : (operation : Operation) (met : Bool) (moving : MovingSector) (past : Past) (mark : Option Bool) (marked : Bool) → moving.transfer.opcode.operation ≡ operation → would_go_on moving marked ≡ true
    → mark ≡ Some marked → Accounts operation met moving past mark → IsFieldDone moving.skipped operation past (sent_of moving.transfer) marked
    → IsMoved operation (record { at = moving.transfer; past = past; marked = marked })
part_moved operation met moving past mark marked same would is accounts done = by_left accounts.bytes
  where
    by_left : AreLeft operation met moving mark (bytes_moved operation past) → IsMoved operation (record { at = moving.transfer; past = past; marked = marked })
    by_left (inl (own, passed, all)) =
        let (uncounted, wanted) = would_as moving marked would in
        let over = nothing_left operation met moving past mark marked uncounted accounts done in
        let skips = skips_other (is_other operation marked) (is_skipping operation) (subst (λ o. (not (is_other o marked) || is_skipping o) ≡ true) same wanted) in
        inl (whole_moved operation met moving past mark marked skips over is accounts all (subst (λ b. IsFieldDone b operation past (sent_of moving.transfer) marked) own done))
    by_left (inr (skipped, passed, skips, other, none, empty)) = inr (skipped_over operation met moving past mark marked is accounts done skipped skips other none empty)

-- a write moved each sector whole
pub written_whole : (deleted : Bool) (part : Part) → IsMoved (Write deleted) part → IsMovedWhole (Write deleted) part
written_whole deleted part (inl whole) = whole
written_whole deleted part (inr over) = absurd (false≢true over.skips)

-- whether a field of the other mark was met, once the sector is over
pub met_then : (operation : Operation) (met : Bool) (moving : MovingSector) (past : Past) (mark : Option Bool) (marked : Bool) → moving.transfer.opcode.operation ≡ operation → mark ≡ Some marked
    → Accounts operation met moving past mark → has_met_other moving marked ≡ (met || is_other operation marked)
met_then operation met moving past mark marked same is accounts =
    ap (λ o. moving.passed_over || is_other o marked) same ∙ by_left accounts.bytes
  where
    true_both : (a b c : Bool) → a ≡ true → c ≡ true → (a || c) ≡ (b || c)
    true_both true true true first second = refl
    true_both true false true first second = refl
    true_both true b false first second = absurd (false≢true second)
    true_both false b c first second = absurd (false≢true first)

    by_left : AreLeft operation met moving mark (bytes_moved operation past) → (moving.passed_over || is_other operation marked) ≡ (met || is_other operation marked)
    by_left (inl (own, passed, all)) = ap (λ b. b || is_other operation marked) passed
    by_left (inr (skipped, passed, skips, (other, here, unwanted), none, empty)) =
        let these : other ≡ marked = cc (here, is) in
        true_both moving.passed_over met (is_other operation marked) passed (ap (is_other operation) (sym these) ∙ unwanted)

-- ---- how a command is given: only where the controller takes one, and not while one of several sectors is served

-- ---- a command starts

pub given_starts : (first : Transfer) (old new : Front) → is_ready old ≡ true → GivesTransfer first old new → Starts first old new
given_starts first old new ready gives = subst (λ b. TransfersIf b first old new) ready gives

pub ready_idle : (stage : FrontStage) (fdc : Fdc) → is_ready_at stage fdc ≡ true → is_idle fdc ≡ true
ready_idle Through fdc is = is
ready_idle stage fdc is = absurd (false≢true is)

-- ---- calls that do nothing while a command is served

pub served_on : (first : Transfer) (history : History) (old : Front) → Serves first history old → old.stage ≡ Through → ⊥
served_on first history old serves through = subst (λ stage. ServesAt stage first history old.adapter.controller) through serves.now

pub no_command : (command : Command) (stage : FrontStage) (old new : Front) → (stage ≡ Through → ⊥) → CommandsIf (is_ready_at stage old.adapter.controller) command old new → new ≡ old
no_command command Through old new on does = absurd (on refl)
no_command command stage old new on is = is

pub no_transfer : (transfer : Transfer) (stage : FrontStage) (old new : Front) → (stage ≡ Through → ⊥) → TransfersIf (is_ready_at stage old.adapter.controller) transfer old new → new ≡ old
no_transfer transfer Through old new on does = absurd (on refl)
no_transfer transfer stage old new on is = is

-- where results are taken, each access is the controller's again
none_taken : (stage : FrontStage) (old new : Front) → (stage ≡ Through → ⊥) → (new.stage ≡ Through → ⊥) → new ≡ taken_at stage old → new ≡ old
none_taken Through old new on stays is = absurd (on refl)
none_taken (Telling results) old new on stays is = absurd (stays (ap (λ front. front.stage) is))
none_taken _ old new on stays is = is

abbrev pub IsIgnored : Call → Type 0
IsIgnored (Reads port) = Unit {0}
IsIgnored (Commands command) = Unit {0}
IsIgnored (Transfers transfer) = Unit {0}
IsIgnored Ends = Unit {0}
IsIgnored _ = ⊥

pub ignored : (call : Call) (old new : Front) → IsIgnored call → Does call old new → (old.stage ≡ Through → ⊥) → (new.stage ≡ Through → ⊥) → new ≡ old
ignored (Reads port) old new may is on stays = is
ignored (Commands command) old new may does on stays = no_command command old.stage old new on does
ignored (Transfers transfer) old new may does on stays = no_transfer transfer old.stage old new on does
ignored Ends old new may is on stays = none_taken old.stage old new on stays is
ignored call old new may does on stays = absurd may
