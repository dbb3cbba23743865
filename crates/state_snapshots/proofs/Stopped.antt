-- Why a partition isn't put in place.
use Rattle.std.proofs.Common.{◌≡◌, ℕ, ◌+◌, ◌-◌, ◌<◌, ◌≤◌, Bool, true, ℤ, pos, ◌+ℤ◌, ◌<ℤ◌, List, ◌∷◌, ◌++◌, length, drop, Option, refl, sym, ap, subst, arith}
use Rattle.std.specs.Prelude.{take, IfSome, Result, Ok, Err, IfErr, IsErrAnd}
use Rattle.std.proofs.lemmas.Int.{ints}
use Rattle.content.specs.Content.{Content}
use Rattle.journal.specs.Readers.{ReadsMayFail, FailsWithin}
use Rattle.copy_images.specs.declared.error.ImageError.{ImageError}
use Rattle.copy_images.specs.declared.error.ImageError.TheVariants as image
use Rattle.copy_images.specs.Refusals.{Refuses}
use Rattle.broker_state.specs.State.{State}
use Rattle.state_snapshots.specs.declared.fault.ImageFault.TheVariants.{BadSize, Short, Image, Behind}
use Rattle.state_snapshots.specs.declared.fault.RestoreFault.{RestoreFault}
use Rattle.state_snapshots.specs.declared.fault.RestoreFault.TheVariants.{OutOfMemory, OnDisk, Damaged, Refused, EarlyProducer}
use Rattle.state_snapshots.specs.Restoring.{Announced, AreAt, HasImageAt, HasRestored}
use Rattle.state_snapshots.specs.Faults.{HasNoImageAt, PartitionFault, StopsFor, SizeFault, CopyFault, PutFault, image_fault}
use Rattle.state_snapshots.proofs.Restored.{both_known, more_restored}

-- what left by a `?`
pub err_is : {V E : Type 0} (r : Result V E) (P : E → Type 0) (e : E) → IsErrAnd r (λ x. x ≡ e) → P e → IfErr r P
err_is (Ok v) P e is holds = tt
err_is (Err f) P e is holds = subst P (sym is) holds

-- ---- sizes, and bytes

pub short_behind : (size : ℤ) (at end count : ℕ) → size ≡ pos count → end < at → pos end <ℤ (pos at +ℤ size)
short_behind size at end count is low = grind (arith, ints, is, low)

pub short_within : (size : ℤ) (at end count : ℕ) → size ≡ pos count → at ≤ end → end - at < count → pos end <ℤ (pos at +ℤ size)
short_within size at end count is there low = let less : end < at + count = omega (arith, there, low) in grind (arith, ints, is, less)

pub bytes_there : (seen : Option (List ℕ)) (at count : ℕ) (bytes : List ℕ) → length bytes ≡ count → IfSome seen (λ file. bytes ≡ take count (drop at file)) → AreAt seen at (pos count) bytes
bytes_there seen at count bytes len read = record {
  sized = ap (λ (n : ℕ). pos n) (sym len);
  read = subst (λ (n : ℕ). IfSome seen (λ file. bytes ≡ take n (drop at file))) (sym len) read;
}

pub no_image : (seen : Option (List ℕ)) (may_fail : Bool) (at count : ℕ) (bytes : List ℕ) (why : ImageError) → AreAt seen at (pos count) bytes → Refuses bytes why → CopyFault seen may_fail at count (image_fault at why)
no_image seen may_fail at count bytes image.Short there refuses = (refl, (bytes, there, refuses, λ same. absurd cc))
no_image seen may_fail at count bytes image.BadMark there refuses = (refl, (bytes, there, refuses, λ same. absurd cc))
no_image seen may_fail at count bytes image.BadVersion there refuses = (refl, (bytes, there, refuses, λ same. absurd cc))
no_image seen may_fail at count bytes image.BadCrc there refuses = (refl, (bytes, there, refuses, λ same. absurd cc))
no_image seen may_fail at count bytes image.BadCover there refuses = (refl, (bytes, there, refuses, λ same. absurd cc))
no_image seen may_fail at count bytes (image.BadBatch i) there refuses = (refl, (bytes, there, refuses, λ same. absurd cc))
no_image seen may_fail at count bytes image.Outside there refuses = (refl, (bytes, there, refuses, λ same. absurd cc))
no_image seen may_fail at count bytes image.Extra there refuses = (refl, (bytes, there, refuses, λ same. absurd cc))
no_image seen may_fail at count bytes image.OutOfMemory there refuses = tt

-- ---- a partition

module _ (seen : Option (List ℕ)) (may_fail : Bool) (end : ℕ) (p : Announced) (at : ℕ) (s : State) where
  abbrev Faulty : RestoreFault → Type 0
  Faulty e = PartitionFault seen may_fail end p at s e

  pub bad_size : (e : RestoreFault) → SizeFault p.size at end e → Faulty e
  bad_size OutOfMemory why = tt
  bad_size (OnDisk e) why = absurd why
  bad_size (Damaged offset BadSize) why = why
  bad_size (Damaged offset Short) why = why
  bad_size (Damaged offset (Image e)) why = absurd why
  bad_size (Damaged offset Behind) why = why
  bad_size (Refused offset e) why = absurd why
  bad_size EarlyProducer why = why

  reads_fail : (n : ℕ) → at + n ≤ end → IfSome seen (λ file. end ≡ length file) → FailsWithin seen may_fail (at + n) → ReadsMayFail seen may_fail
  reads_fail n within ends fails =
      both_known seen (λ file. end ≡ length file) (λ file. at + n ≤ length file → may_fail ≡ true) (λ file. may_fail ≡ true) ends fails (λ file is why. why (omega (arith, is, within)))

  pub no_copy : (n : ℕ) (e : RestoreFault) → p.size ≡ pos n → at + n ≤ end → IfSome seen (λ file. end ≡ length file) → CopyFault seen may_fail at n e → Faulty e
  no_copy n OutOfMemory is within ends why = tt
  no_copy n (OnDisk e) is within ends why = reads_fail n within ends why
  no_copy n (Damaged offset BadSize) is within ends why = absurd why
  no_copy n (Damaged offset Short) is within ends why = absurd why
  no_copy n (Damaged offset (Image e)) is within ends why = (why.0, subst (λ (z : ℤ). HasNoImageAt seen at z e) (sym is) why.1)
  no_copy n (Damaged offset Behind) is within ends why = why
  no_copy n (Refused offset e) is within ends why = absurd why
  no_copy n EarlyProducer is within ends why = why

  pub not_put : (topic : List ℕ) (i n : ℕ) (c : Content) (e : RestoreFault) → p ≡ record { topic = topic; partition = pos i; size = pos n } → HasImageAt seen at (pos n) c → PutFault s topic i at c e → Faulty e
  not_put topic i n c OutOfMemory is has why = tt
  not_put topic i n c (OnDisk e) is has why = absurd why
  not_put topic i n c (Damaged offset BadSize) is has why = absurd why
  not_put topic i n c (Damaged offset Short) is has why = absurd why
  not_put topic i n c (Damaged offset (Image e)) is has why = absurd why
  not_put topic i n c (Damaged offset Behind) is has why = why
  not_put topic i n c (Refused offset e) is has why =
      subst (λ (q : Announced). PartitionFault seen may_fail end q at s (Refused offset e)) (sym is) (why.0, c, has, why.1)
  not_put topic i n c EarlyProducer is has why = why

-- the next partition is the one that isn't put in place
pub stops_here : (seen : Option (List ℕ)) (may_fail : Bool) (all left rest : List Announced) (next : Announced) (at behind end : ℕ) (s now : State) (e : RestoreFault) → left ≡ next ∷ rest
    → IfSome seen (λ file. end ≡ length file) → HasRestored seen all left at behind s now → PartitionFault seen may_fail end next behind now e → StopsFor seen may_fail all at s now e
stops_here seen may_fail all left rest next at behind end s now e is ends restored why = record {
  next = next;
  left = rest;
  behind = behind;
  end = end;
  ends = ends;
  restored = subst (λ (xs : List Announced). HasRestored seen all xs at behind s now) is restored;
  why = why;
}

-- it is one of some that come next
pub stops_later : (seen : Option (List ℕ)) (may_fail : Bool) (all part left rest : List Announced) (at mid : ℕ) (s m now : State) (e : RestoreFault) → left ≡ part ++ rest
    → HasRestored seen all left at mid s m → StopsFor seen may_fail part mid m now e → StopsFor seen may_fail all at s now e
stops_later seen may_fail all part left rest at mid s m now e is restored stops = record {
  next = stops.next;
  left = stops.left ++ rest;
  behind = stops.behind;
  end = stops.end;
  ends = stops.ends;
  restored = more_restored seen all part (stops.next ∷ stops.left) left rest at mid stops.behind s m now is restored stops.restored;
  why = stops.why;
}
