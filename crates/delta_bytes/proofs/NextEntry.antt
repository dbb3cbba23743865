-- From a list or a batch to an entry, and back.
use Rattle.std.proofs.Common.{get_or, ◌≡◌, ◌≢◌, ℕ, ◌+◌, ◌*◌, ℤ, pos, Bool, true, false, List, ◌∷◌, ◌++◌, length, drop, sym, ap, subst, ◌∙◌, arith}
use Rattle.std.specs.Prelude.{◌≤ℤ◌, IsTrue, ◌↔◌, Result, Ok, Err, IfErr}
use Rattle.std.proofs.lemmas.Int.{ints}
use Rattle.batch_codec.specs.Values.{BatchValue}
use Rattle.batch_codec.specs.Grammar.{batch_encoding}
use Rattle.batch_codec.specs.Offsets.{first_offset, last_offset}
use Rattle.cover_ranges.specs.Runs.{Runs, covers, CoversAll, CoversAny}
use Rattle.copy_images.specs.Refusals as images
use Rattle.delta_bytes.specs.declared.layout.TheConstants.{LISTED, SENT}
use Rattle.delta_bytes.specs.declared.entry.EntryError.{EntryError}
use Rattle.delta_bytes.specs.declared.entry.EntryError.TheVariants.{Unseen}
use Rattle.deltas.specs.Entries.{Entry, last_listed, AreCovered}
use Rattle.deltas.specs.Entries.Entry.{Listed, Sent}
use Rattle.delta_bytes.specs.EntryBytes.{list_encoding, IsNext}
use Rattle.delta_bytes.specs.Judging.{IsNextList, IsEntryAt, RefusesEntry}
use Rattle.delta_bytes.proofs.OffsetLists.{length-list}

-- ---- a list

listed_next : (low base : ℤ) (os : List ℤ) (bytes : List ℕ) → IsNextList low base os bytes → IsNext low (Listed base os) (LISTED ∷ bytes)
listed_next low base os bytes next = record {
  may_follow = (
    next.from_low,
    record {
      rise = next.rise;
      base_fits = next.list.listable.base_fits;
      offsets_fit = next.list.listable.offsets_fit;
      counted = next.list.listable.counted;
    },
  );
  rest = next.list.rest;
  encoded = ap (λ (x : List ℕ). LISTED ∷ x) next.list.encoded;
}

pub first_byte : (a b : ℕ) (xs ys : List ℕ) → a ∷ xs ≡ b ∷ ys → a ≡ b
first_byte a b xs ys e = ap (λ (x : List ℕ). get_or x 0 0) e

pub no_listed : (low : ℤ) (bytes : List ℕ) → ((base : ℤ) (os : List ℤ) → IsNextList low base os bytes → ⊥) → (x : Entry) → IsNext low x (LISTED ∷ bytes) → ⊥
no_listed low bytes none (Listed base os) next =
    none base os (record {
      from_low = next.may_follow.0;
      rise = next.may_follow.1.rise;
      list = record {
        listable = record {
          base_fits = next.may_follow.1.base_fits;
          offsets_fit = next.may_follow.1.offsets_fit;
          counted = next.may_follow.1.counted;
        };
        rest = next.rest;
        encoded = ap (drop 1) next.encoded;
      };
    })
no_listed low bytes none (Sent b) next =
    let e : LISTED ≡ SENT = first_byte LISTED SENT bytes (batch_encoding b ++ next.rest) next.encoded in
    omega (arith, e)

pub listed_accepted : (runs asked : Runs) (low base : ℤ) (os : List ℤ) (bytes : List ℕ) (last : ℤ) (size : ℕ) → IsNextList low base os bytes → last ≡ last_listed base os → IsTrue (covers runs base) × AreCovered runs os
    → size ≡ 13 + 8 * length os → IsEntryAt runs asked low (LISTED ∷ bytes) last size
listed_accepted runs asked low base os bytes last size next last_is seen size_is = record {
  entry = Listed base os;
  next = listed_next low base os bytes next;
  within = seen;
  last_is = last_is;
  size_is = omega (arith, size_is, length-list base os);
}

pub listed_unseen : (runs asked : Runs) (low base : ℤ) (os : List ℤ) (bytes : List ℕ) (says : Bool) → IsNextList low base os bytes → (IsTrue says ↔ (IsTrue (covers runs base) × AreCovered runs os)) → says ≡ false
    → RefusesEntry runs asked low (LISTED ∷ bytes) Unseen
listed_unseen runs asked low base os bytes says next seen denied = (Listed base os, listed_next low base os bytes next, λ within. both says (seen.1 within) denied)
  where
    both : (t : Bool) → IsTrue t → t ≡ false → ⊥
    both t p q = cc

-- ---- a batch

sent_next : (low : ℤ) (b : BatchValue) (bytes : List ℕ) → images.IsNext low b bytes → IsNext low (Sent b) (SENT ∷ bytes)
sent_next low b bytes next = record {
  may_follow = (next.rises, (next.starts.writable, next.keys), next.in_range);
  rest = next.starts.rest;
  encoded = ap (λ (x : List ℕ). SENT ∷ x) next.starts.encoded;
}

pub no_sent : (low : ℤ) (bytes : List ℕ) → ((b : BatchValue) → images.IsNext low b bytes → ⊥) → (x : Entry) → IsNext low x (SENT ∷ bytes) → ⊥
no_sent low bytes none (Listed base os) next =
    let e : SENT ≡ LISTED = first_byte SENT LISTED bytes (list_encoding base os ++ next.rest) next.encoded in
    omega (arith, e)
no_sent low bytes none (Sent b) next =
    none b (record {
      starts = record { writable = next.may_follow.1.0; rest = next.rest; encoded = ap (drop 1) next.encoded };
      keys = next.may_follow.1.1;
      in_range = next.may_follow.2;
      rises = next.may_follow.0;
    })

pub span_some : (low : ℤ) (b : BatchValue) (bytes : List ℕ) → images.IsNext low b bytes → first_offset b ≤ℤ last_offset b
span_some low b bytes next =
    let delta : pos 0 ≤ℤ b.head.last_delta = next.starts.writable.valid.last_delta in
    omega (arith, ints, delta)

pub sent_accepted : (runs asked : Runs) (low : ℤ) (b : BatchValue) (bytes : List ℕ) (last : ℤ) (size : ℕ) (says : Bool) → images.IsNext low b bytes
    → (IsTrue says ↔ (CoversAll runs (first_offset b) (last_offset b) × ¬ CoversAny asked (first_offset b) (last_offset b))) → says ≡ true → last ≡ last_offset b → size ≡ 1 + length (batch_encoding b)
    → IsEntryAt runs asked low (SENT ∷ bytes) last size
sent_accepted runs asked low b bytes last size says next within granted last_is size_is = record {
  entry = Sent b;
  next = sent_next low b bytes next;
  within = within.0 granted;
  last_is = last_is;
  size_is = omega (arith, size_is);
}

pub sent_unseen : (runs asked : Runs) (low : ℤ) (b : BatchValue) (bytes : List ℕ) (says : Bool) → images.IsNext low b bytes
    → (IsTrue says ↔ (CoversAll runs (first_offset b) (last_offset b) × ¬ CoversAny asked (first_offset b) (last_offset b))) → says ≡ false → RefusesEntry runs asked low (SENT ∷ bytes) Unseen
sent_unseen runs asked low b bytes says next within denied = (Sent b, sent_next low b bytes next, λ is. both says (within.1 is) denied)
  where
    both : (t : Bool) → IsTrue t → t ≡ false → ⊥
    both t p q = cc

-- ---- neither

pub no_entry : (low : ℤ) (bytes : List ℕ) → length bytes ≡ 0 → (x : Entry) → IsNext low x bytes → ⊥
no_entry low bytes none (Listed base os) next = omega (arith, none, ap length next.encoded)
no_entry low bytes none (Sent b) next = omega (arith, none, ap length next.encoded)

pub no_kind : (low : ℤ) (kind : ℕ) (behind bytes : List ℕ) → bytes ≡ kind ∷ behind → kind ≢ LISTED → kind ≢ SENT → (x : Entry) → IsNext low x bytes → ⊥
no_kind low kind behind bytes is other another (Listed base os) next = other (first_byte kind LISTED behind (list_encoding base os ++ next.rest) (sym is ∙ next.encoded))
no_kind low kind behind bytes is other another (Sent b) next = another (first_byte kind SENT behind (batch_encoding b ++ next.rest) (sym is ∙ next.encoded))

-- what was said of the bytes behind a kind, of all of them
pub refused_list : {V : Type 0} (runs asked : Runs) (low given : ℤ) (kind : ℕ) (behind bytes : List ℕ) (r : Result V EntryError) → given ≡ low → bytes ≡ kind ∷ behind → kind ≡ LISTED
    → IfErr r (λ fault. (a : Runs) → RefusesEntry runs a given (LISTED ∷ behind) fault) → IfErr r (RefusesEntry runs asked low bytes)
refused_list runs asked low given kind behind bytes (Ok v) same parts is h = tt
refused_list runs asked low given kind behind bytes (Err e) same parts is h =
    subst (λ (x : List ℕ). RefusesEntry runs asked low x e) (sym (parts ∙ ap (λ (k : ℕ). k ∷ behind) is)) (subst (λ (z : ℤ). RefusesEntry runs asked z (LISTED ∷ behind) e) same (h asked))

pub refused_batch : {V : Type 0} (runs asked : Runs) (low given : ℤ) (kind : ℕ) (behind bytes : List ℕ) (r : Result V EntryError) → given ≡ low → bytes ≡ kind ∷ behind → kind ≡ SENT
    → IfErr r (RefusesEntry runs asked given (SENT ∷ behind)) → IfErr r (RefusesEntry runs asked low bytes)
refused_batch runs asked low given kind behind bytes (Ok v) same parts is h = tt
refused_batch runs asked low given kind behind bytes (Err e) same parts is h =
    subst (λ (x : List ℕ). RefusesEntry runs asked low x e) (sym (parts ∙ ap (λ (k : ℕ). k ∷ behind) is)) (subst (λ (z : ℤ). RefusesEntry runs asked z (SENT ∷ behind) e) same h)
