-- The data of all keys of a track but one.
use Rattle.std.proofs.Common.{◌≡◌, ◌≢◌, ◌↔◌, ℕ, Bool, List, refl, sym, subst, ◌∙◌}
use Rattle.sector_map.proofs.Common.{Chrn, Disk, HasTrack, track_of, Look, Found, NoMark, NoSector, NoData, BadCrc, IsAddressAt, content_at, LookAt, LookFirst, LookFor, HasAddressMark, IsSector, KeepsOthers, IsRegular, one_key, LookOn, Entry, IsOnMap, HasLook, AllFound, KeepsOtherKeys}

-- `after` has the address fields of the track at the same places, and behind them the data of all keys but one
pub record KeepsPlaces (track : List ℕ) (key : Chrn) (after : List ℕ) : Type 0 where
  pub marks : HasAddressMark track ↔ HasAddressMark after
  pub addresses : (p : ℕ) (any : Chrn) → IsAddressAt track p any ↔ IsAddressAt after p any
  pub looks : (p : ℕ) (other : Chrn) (look : Look) → other ≢ key → IsAddressAt track p other
      → LookAt track p other.n look ↔ LookAt after p other.n look
  pub contents : (p : ℕ) (other : Chrn) (deleted : Bool) (place : ℕ) → other ≢ key → IsAddressAt track p other
      → LookAt track p other.n (Found deleted place) → content_at track place other.n ≡ content_at after place other.n

-- a write behind the key's address field keeps the places
pub places_kept : (track after : List ℕ) (p : ℕ) (key : Chrn) → IsAddressAt track p key → KeepsOthers track after p → KeepsPlaces track key after
places_kept track after p key here keeps =
    let apart : (q : ℕ) (other : Chrn) → other ≢ key → IsAddressAt track q other → q ≢ p =
    λ q other differs address same. differs (one_key track p other key (subst (λ r. IsAddressAt track r other) same address) here) in
    record {
      marks = (λ _. (p, ((keeps.addresses p key).0 here).mark), λ _. (p, here.mark));
      addresses = keeps.addresses;
      looks = λ q other look differs address. keeps.looks q other look (apart q other differs address) address;
      contents = λ q other deleted place differs address. keeps.contents q other deleted place (apart q other differs address) address;
    }

pub places_same : (track : List ℕ) (key : Chrn) → KeepsPlaces track key track
places_same track key = record {
  marks = (λ m. m, λ m. m);
  addresses = λ p any. (λ a. a, λ a. a);
  looks = λ p other look differs address. (λ l. l, λ l. l);
  contents = λ p other deleted place differs address look. refl;
}

pub places_back : (track : List ℕ) (key : Chrn) (after : List ℕ) → KeepsPlaces track key after → KeepsPlaces after key track
places_back track key after keeps = record {
  marks = (keeps.marks.1, keeps.marks.0);
  addresses = λ p any. ((keeps.addresses p any).1, (keeps.addresses p any).0);
  looks = λ p other look differs address.
      let both = keeps.looks p other look differs ((keeps.addresses p other).1 address) in
      (both.1, both.0);
  contents = λ p other deleted place differs address look.
      let before = (keeps.addresses p other).1 address in
      sym (keeps.contents p other deleted place differs before ((keeps.looks p other (Found deleted place) differs before).1 look));
}

module _ (track : List ℕ) (key : Chrn) (after : List ℕ) (keeps : KeepsPlaces track key after) (other : Chrn) (differs : other ≢ key) where
  look_on : (look : Look) → HasLook track other look → HasLook after other look
  look_on look (p, address, found) =
      (p, (keeps.addresses p other).0 address, (keeps.looks p other look differs address).0 found)

  all_found_on : AllFound track other → AllFound after other
  all_found_on all p address =
      let before = (keeps.addresses p other).1 address in
      let (deleted, place, found) = all p before in
      (deleted, place, (keeps.looks p other (Found deleted place) differs before).0 found)

  sector_on : (deleted : Bool) (content : List ℕ) → IsSector track other deleted content → IsSector after other deleted content
  sector_on deleted content (p, place, address, found, is) = (
    p,
    place,
    (keeps.addresses p other).0 address,
    (keeps.looks p other (Found deleted place) differs address).0 found,
    is ∙ keeps.contents p other deleted place differs address found,
  )

  first_on : (look : Look) → LookFirst track other look → LookFirst after other look
  first_on look (p, first, found) = (
    p,
    record {
      address = (keeps.addresses p other).0 first.address;
      none_before = λ k h address. first.none_before k h ((keeps.addresses k other).1 address);
    },
    (keeps.looks p other look differs first.address).0 found,
  )

  look_for_on : (look : Look) → LookFor track other look → LookFor after other look
  look_for_on NoMark none = λ mark. none (keeps.marks.1 mark)
  look_for_on NoSector (mark, none) = (keeps.marks.0 mark, λ p address. none p ((keeps.addresses p other).1 address))
  look_for_on NoData found = first_on NoData found
  look_for_on BadCrc found = first_on BadCrc found
  look_for_on (Found deleted place) found = first_on (Found deleted place) found

pub other_keys : (track : List ℕ) (key : Chrn) (after : List ℕ) → ((c h : ℕ) → IsRegular track c h → IsRegular after c h) → KeepsPlaces track key after → KeepsOtherKeys track key after
other_keys track key after regular keeps =
    let back = places_back track key after keeps in
    record {
      regular = regular;
      marks = keeps.marks;
      addresses = keeps.addresses;
      looks = λ other look differs. (look_on track key after keeps other differs look, look_on after key track back other differs look);
      all_found = λ other differs. (all_found_on track key after keeps other differs, all_found_on after key track back other differs);
      sectors = λ other deleted content differs.
          (sector_on track key after keeps other differs deleted content, sector_on after key track back other differs deleted content);
    }

pub other_keys_same : (track : List ℕ) (key : Chrn) → KeepsOtherKeys track key track
other_keys_same track key = other_keys track key track (λ c h regular. regular) (places_same track key)

-- ---- on disks with the same tracks

module _ (disk after : Disk) (key : Chrn) (has : (c h : ℕ) → HasTrack disk c h → HasTrack after c h) (had : (c h : ℕ) → HasTrack after c h → HasTrack disk c h) (keeps : (c h : ℕ) → HasTrack disk c h → KeepsPlaces (track_of disk c h) key (track_of after c h)) where
  pub looked_on : (other : Chrn) (look : Look) → other ≢ key → LookOn disk other look → LookOn after other look
  looked_on other look differs on = record {
    there = λ there.
        let before = had other.c other.h there in
        look_for_on (track_of disk other.c other.h) key (track_of after other.c other.h) (keeps other.c other.h before) other differs look (on.there before);
    absent = λ none. on.absent (λ before. none (has other.c other.h before));
  }

  pub entry_on : (entry : Entry) → entry.key ≢ key → IsOnMap disk entry → IsOnMap after entry
  entry_on entry differs on =
      let row = keeps entry.cylinder entry.head on.track in
      let (place, found, is) = on.content in
      record {
        track = has entry.cylinder entry.head on.track;
        address = (row.addresses entry.place entry.key).0 on.address;
        content = (
          place,
          (row.looks entry.place entry.key (Found entry.deleted place) differs on.address).0 found,
          is ∙ row.contents entry.place entry.key entry.deleted place differs on.address found,
        );
      }
