-- The latest of some records of a key.
use Rattle.std.proofs.Common.{◌≡◌, ℤ, Bool, true, false, List, [], ◌∷◌, ◌++◌, refl, sym, ap, subst, ◌∙◌, ◌⊎◌, inl, inr, true≢false, arith}
use Rattle.std.specs.Prelude.{◌≤ℤ◌, ◌<ℤ◌}
use Rattle.std.proofs.lemmas.Int.{ints, by_lt_z}
use Rattle.std.proofs.lemmas.List.Concat.{flat_map-cons}
use Rattle.content.specs.Records.{LogRecord, log_records, equal_keys, same_key}
use Rattle.cleaning_policy.specs.Readers.{IsAmong}
use Rattle.cleaning_courses.specs.Keys.{has_key}
use Rattle.cleaning_courses.proofs.Lists.{among-append, among-left, among-right}
use Rattle.cleaning_courses.proofs.Keyed.{Batches, Key, placed, key_of}

-- records of one key, whichever of the two is asked
pub own_key : (z x : LogRecord) → same_key z.1 x.1 ≡ true → (has_key z.1.key z ≡ true) × (has_key z.1.key x ≡ true)
own_key z x same =
    let e : z.1.key ≡ x.1.key = key_of x.1.key z same in
    let own : has_key z.1.key z ≡ true = ap (equal_keys z.1.key) e ∙ same in
    (own, ap (λ (k : Key). equal_keys k z.1.key) (sym e) ∙ own)

-- the last of some records of a key, of which one is known
pub record IsLastOf (key : Key) (xs : List LogRecord) (z one : LogRecord) : Type 0 where
  pub among : (one ≡ z) ⊎ IsAmong one xs
  pub own : has_key key one ≡ true
  pub behind : z.0 ≤ℤ one.0
  pub last : (y : LogRecord) → IsAmong y xs → has_key key y ≡ true → y.0 ≤ℤ one.0

z_refl : (a : ℤ) → a ≤ℤ a
z_refl a = omega (arith, ints)

pub last_of : (key : Key) (xs : List LogRecord) (z : LogRecord) → has_key key z ≡ true → (one : LogRecord) × IsLastOf key xs z one
last_of key [] z own = (z, record { among = inl refl; own = own; behind = z_refl z.0; last = λ y i. absurd i })
last_of key (x ∷ xs) z own = by (has_key key x) refl (last_of key xs z own)
  where
    rest_among : (one : LogRecord) → (one ≡ z) ⊎ IsAmong one xs → (one ≡ z) ⊎ IsAmong one (x ∷ xs)
    rest_among one (inl is) = inl is
    rest_among one (inr i) = inr (inr i)

    no_key : (y : LogRecord) → has_key key x ≡ false → x ≡ y → has_key key y ≡ true → ⊥
    no_key y e is mine = absurd (true≢false (sym (ap (has_key key) is ∙ mine) ∙ e))

    skip : (one : LogRecord) → has_key key x ≡ false → IsLastOf key xs z one → (y : LogRecord) → IsAmong y (x ∷ xs) → has_key key y ≡ true → y.0 ≤ℤ one.0
    skip one e is y (inl same) mine = absurd (no_key y e same mine)
    skip one e is y (inr i) mine = is.last y i mine

    older : (one : LogRecord) → x.0 ≤ℤ one.0 → IsLastOf key xs z one → (y : LogRecord) → IsAmong y (x ∷ xs) → has_key key y ≡ true → y.0 ≤ℤ one.0
    older one le is y (inl same) mine = subst (λ (r : LogRecord). r.0 ≤ℤ one.0) same le
    older one le is y (inr i) mine = is.last y i mine

    newer : (one : LogRecord) → one.0 <ℤ x.0 → IsLastOf key xs z one → (y : LogRecord) → IsAmong y (x ∷ xs) → has_key key y ≡ true → y.0 ≤ℤ x.0
    newer one lt is y (inl same) mine = subst (λ (r : LogRecord). r.0 ≤ℤ x.0) same (z_refl x.0)
    newer one lt is y (inr i) mine = let le : y.0 ≤ℤ one.0 = is.last y i mine in omega (arith, ints, le, lt)

    by : (b : Bool) → has_key key x ≡ b → (one : LogRecord) × IsLastOf key xs z one → (one : LogRecord) × IsLastOf key (x ∷ xs) z one
    by false e rest = (rest.0, record { among = rest_among rest.0 rest.1.among; own = rest.1.own; behind = rest.1.behind; last = skip rest.0 e rest.1 })
    by true e rest = by_lt_z rest.0.0 x.0
        (λ lt. (x, record { among = inr (inl refl); own = e; behind = let le : z.0 ≤ℤ rest.0.0 = rest.1.behind in omega (arith, ints, le, lt); last = newer rest.0 lt rest.1 }))
        (λ le. (rest.0, record { among = rest_among rest.0 rest.1.among; own = rest.1.own; behind = rest.1.behind; last = older rest.0 le rest.1 }))

-- ---- batches one behind another

pub either_batches : (z : LogRecord) (bs cs : Batches) → IsAmong z (log_records (bs ++ cs)) → IsAmong z (log_records bs) ⊎ IsAmong z (log_records cs)
either_batches z [] cs i = inr i
either_batches z (b ∷ bs) cs i = first (among-append z (placed b) (log_records (bs ++ cs)) (subst (IsAmong z) (flat_map-cons placed b (bs ++ cs)) i)) (either_batches z bs cs)
  where
    front : IsAmong z (placed b) ⊎ IsAmong z (log_records bs) → IsAmong z (log_records (b ∷ bs))
    front (inl j) = subst (IsAmong z) (sym (flat_map-cons placed b bs)) (among-left z (placed b) (log_records bs) j)
    front (inr j) = subst (IsAmong z) (sym (flat_map-cons placed b bs)) (among-right z (placed b) (log_records bs) j)

    rest : IsAmong z (log_records bs) ⊎ IsAmong z (log_records cs) → IsAmong z (log_records (b ∷ bs)) ⊎ IsAmong z (log_records cs)
    rest (inl j) = inl (front (inr j))
    rest (inr j) = inr j

    first : IsAmong z (placed b) ⊎ IsAmong z (log_records (bs ++ cs)) → (IsAmong z (log_records (bs ++ cs)) → IsAmong z (log_records bs) ⊎ IsAmong z (log_records cs)) → IsAmong z (log_records (b ∷ bs)) ⊎ IsAmong z (log_records cs)
    first (inl j) ih = inl (front (inl j))
    first (inr j) ih = rest (ih j)
