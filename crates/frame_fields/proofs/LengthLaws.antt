-- A number and what stands behind it: so many bytes, so many elements, or null.
use Rattle.std.proofs.Common.{◌≡◌, ℕ, zero, suc, ◌≤◌, ℤ, pos, negsuc, List, [], ◌++◌, length, drop, Option, Some, None, Ok, Err, refl, sym, ap, subst, ◌∙◌, append_assoc, arith, ◌⊎◌, inl, inr}
use Rattle.std.specs.Prelude.{FitsSigned, ◌<ℤ◌}
use Rattle.std.proofs.lemmas.Bool.{cases_lt}
use Rattle.std.proofs.lemmas.Int.{ints}
use Rattle.frame_fields.specs.declared.error.FieldFault.{FieldFault}
use Rattle.frame_fields.specs.declared.error.FieldFault.TheVariants.{ShortBody, Malformed}
use Rattle.frame_fields.specs.Fields.{Size, width, be, number_at, IsCut, FitsLength}
use Rattle.frame_fields.specs.Reading.{◌>>=◌, At, map_read, read_number}
use Rattle.frame_fields.proofs.Numbers.{IsBytes, IsBytes-drop, size_of, null_fits, number_fits, number_back, number_cut, number_read, read_number_again}
use Rattle.frame_fields.proofs.ReaderLaws.{Reads, done_is, map_read_ok, map_read_err}

-- ---- a number, and what it announces

-- What is read behind a number z is `payload v` with `size v` equal to z, or a fault.
pub record Announces {X : Type 0} (s : Size) (size : X → ℤ) (payload : X → List ℕ) (fits : X → Type 0) (breaks : ℤ → FieldFault → List ℕ → Type 0) (body : ℤ → List ℕ → At X) : Type 0 where
  pub small : (v : X) → fits v → FitsSigned (width s) (size v)
  pub again : (v : X) (rest : List ℕ) → fits v → body (size v) (payload v ++ rest) ≡ Ok (v, rest)
  pub takes : (z : ℤ) (bytes : List ℕ) (v : X) (rest : List ℕ) → FitsSigned (width s) z → IsBytes bytes → body z bytes ≡ Ok (v, rest) → fits v × (size v ≡ z) × (bytes ≡ payload v ++ rest)
  pub broken : (z : ℤ) (e : FieldFault) (bytes : List ℕ) → breaks z e bytes → body z bytes ≡ Err e
  pub fault : (z : ℤ) (e : FieldFault) (bytes : List ℕ) → IsBytes bytes → body z bytes ≡ Err e → breaks z e bytes

abbrev pub read_behind : {X : Type 0} → Size → (ℤ → List ℕ → At X) → List ℕ → At X
read_behind s body bytes = read_number s bytes >>= λ n. body n.0 n.1

-- The number is cut, or what follows it has the fault.
abbrev pub BreaksBehind : Size → (ℤ → FieldFault → List ℕ → Type 0) → FieldFault → List ℕ → Type 0
BreaksBehind s breaks e bytes =
    IsCut s bytes × (e ≡ ShortBody) ⊎ (size_of s ≤ length bytes) × breaks (number_at s bytes) e (drop (size_of s) bytes)

read_long : {X : Type 0} (s : Size) (body : ℤ → List ℕ → At X) (bytes : List ℕ) → size_of s ≤ length bytes → read_behind s body bytes ≡ body (number_at s bytes) (drop (size_of s) bytes)
read_long s body bytes long = ap (λ r. r >>= λ n. body n.0 n.1) (number_read s bytes long)

read_cut : {X : Type 0} (s : Size) (body : ℤ → List ℕ → At X) (bytes : List ℕ) → IsCut s bytes → read_behind s body bytes ≡ Err ShortBody
read_cut s body bytes cut = ap (λ r. r >>= λ n. body n.0 n.1) (number_cut s bytes cut)

module _ {X : Type 0} (s : Size) (size : X → ℤ) (payload : X → List ℕ) (fits : X → Type 0) (breaks : ℤ → FieldFault → List ℕ → Type 0) (body : ℤ → List ℕ → At X) (p : Announces s size payload fits breaks body) where
  behind_again : (v : X) (rest : List ℕ) → fits v → read_behind s body ((be s (size v) ++ payload v) ++ rest) ≡ Ok (v, rest)
  behind_again v rest h =
      let tail = payload v ++ rest in
      let number = ap (read_number s) (append_assoc (be s (size v)) (payload v) rest) ∙ read_number_again s (size v) tail (p.small v h) in
      ap (λ r. r >>= λ n. body n.0 n.1) number ∙ p.again v rest h

  behind_takes : (bytes : List ℕ) (v : X) (rest : List ℕ) → IsBytes bytes → read_behind s body bytes ≡ Ok (v, rest) → fits v × (bytes ≡ (be s (size v) ++ payload v) ++ rest)
  behind_takes bytes v rest h e =
      elim (cases_lt (length bytes) (size_of s)) [
        | inl cut ↦ let clash = sym e ∙ read_cut s body bytes cut in absurd cc
        | inr long ↦
            let tail = drop (size_of s) bytes in
            let z = number_at s bytes in
            let t = p.takes z tail v rest (number_fits s bytes h) (IsBytes-drop (size_of s) bytes h) (sym (read_long s body bytes long) ∙ e) in
            let parts : bytes ≡ be s (size v) ++ (payload v ++ rest) = number_back s bytes h long ∙ λ i. be s (sym t.1 i) ++ t.2 i in
            (t.0, parts ∙ sym (append_assoc (be s (size v)) (payload v) rest))
      ]

  behind_broken : (e : FieldFault) (bytes : List ℕ) → BreaksBehind s breaks e bytes → read_behind s body bytes ≡ Err e
  behind_broken e bytes (inl h) = read_cut s body bytes h.0 ∙ ap Err (sym h.1)
  behind_broken e bytes (inr h) = read_long s body bytes h.0 ∙ p.broken (number_at s bytes) e (drop (size_of s) bytes) h.1

  behind_fault : (e : FieldFault) (bytes : List ℕ) → IsBytes bytes → read_behind s body bytes ≡ Err e → BreaksBehind s breaks e bytes
  behind_fault e bytes h k =
      elim (cases_lt (length bytes) (size_of s)) [
        | inl cut ↦ let same = sym k ∙ read_cut s body bytes cut in inl (cut, cc)
        | inr long ↦ inr (long, p.fault (number_at s bytes) e (drop (size_of s) bytes) (IsBytes-drop (size_of s) bytes h) (sym (read_long s body bytes long) ∙ k))
      ]

  pub behind_reads : Reads (λ v. be s (size v) ++ payload v) fits (BreaksBehind s breaks) (read_behind s body)
  behind_reads = record { again = behind_again; takes = behind_takes; broken = behind_broken; fault = behind_fault }

-- ---- a count that is not negative, or null

-- What is read n times, or n bytes long, is `payload v` with `count v` equal to n, or a fault.
pub record Counts {X : Type 0} (s : Size) (count : X → ℕ) (payload : X → List ℕ) (fits : X → Type 0) (breaks : ℕ → FieldFault → List ℕ → Type 0) (read : ℕ → List ℕ → At X) : Type 0 where
  pub small : (v : X) → fits v → FitsLength s (count v)
  pub again : (v : X) (rest : List ℕ) → fits v → read (count v) (payload v ++ rest) ≡ Ok (v, rest)
  pub takes : (n : ℕ) (bytes : List ℕ) (v : X) (rest : List ℕ) → FitsLength s n → IsBytes bytes → read n bytes ≡ Ok (v, rest) → fits v × (count v ≡ n) × (bytes ≡ payload v ++ rest)
  pub broken : (n : ℕ) (e : FieldFault) (bytes : List ℕ) → breaks n e bytes → read n bytes ≡ Err e
  pub fault : (n : ℕ) (e : FieldFault) (bytes : List ℕ) → IsBytes bytes → read n bytes ≡ Err e → breaks n e bytes

-- The number is below the least one, or it is a count and what follows has the fault.
abbrev pub BreaksCount : ℤ → (ℕ → FieldFault → List ℕ → Type 0) → ℤ → FieldFault → List ℕ → Type 0
BreaksCount least breaks z e bytes = (z <ℤ least) × (e ≡ Malformed) ⊎ (n : ℕ) × (z ≡ pos n) × breaks n e bytes

-- What a reader by a number does at each sign, where null is none of its values.
pub record IsCounted {X : Type 0} (read : ℕ → List ℕ → At X) (body : ℤ → List ℕ → At X) : Type 0 where
  pub counts : (n : ℕ) (bytes : List ℕ) → body (pos n) bytes ≡ read n bytes
  pub refuses : (n : ℕ) (bytes : List ℕ) → body (negsuc n) bytes ≡ Err Malformed

-- The same, where -1 is null.
pub record IsCountedOrNull {X : Type 0} (read : ℕ → List ℕ → At X) (body : ℤ → List ℕ → At (Option X)) : Type 0 where
  pub counts : (n : ℕ) (bytes : List ℕ) → body (pos n) bytes ≡ map_read Some (read n bytes)
  pub null : (bytes : List ℕ) → body (negsuc 0) bytes ≡ Ok (None, bytes)
  pub refuses : (n : ℕ) (bytes : List ℕ) → body (negsuc (suc n)) bytes ≡ Err Malformed

abbrev pub null_or : {X : Type 0} → (X → ℕ) → Option X → ℤ
null_or count None = negsuc 0
null_or count (Some v) = pos (count v)

abbrev pub nothing_or : {X : Type 0} → (X → List ℕ) → Option X → List ℕ
nothing_or payload None = []
nothing_or payload (Some v) = payload v

abbrev pub FitsOrNull : {X : Type 0} → (X → Type 0) → Option X → Type 0
FitsOrNull fits None = Unit {0}
FitsOrNull fits (Some v) = fits v

module _ {X : Type 0} (s : Size) (count : X → ℕ) (payload : X → List ℕ) (fits : X → Type 0) (breaks : ℕ → FieldFault → List ℕ → Type 0) (read : ℕ → List ℕ → At X) (p : Counts s count payload fits breaks read) (body : ℤ → List ℕ → At X) (b : IsCounted read body) where
  counted_takes : (z : ℤ) (bytes : List ℕ) (v : X) (rest : List ℕ) → FitsSigned (width s) z → IsBytes bytes → body z bytes ≡ Ok (v, rest) → fits v × (pos (count v) ≡ z) × (bytes ≡ payload v ++ rest)
  counted_takes (pos n) bytes v rest f h e =
      let t = p.takes n bytes v rest f h (sym (b.counts n bytes) ∙ e) in
      (t.0, ap pos t.1, t.2)
  counted_takes (negsuc n) bytes v rest f h e = let clash = sym e ∙ b.refuses n bytes in absurd cc

  counted_broken : (z : ℤ) (e : FieldFault) (bytes : List ℕ) → BreaksCount (pos 0) breaks z e bytes → body z bytes ≡ Err e
  counted_broken (pos n) e bytes (inl h) = absurd (omega (arith, ints, h.0))
  counted_broken (negsuc n) e bytes (inl h) = b.refuses n bytes ∙ ap Err (sym h.1)
  counted_broken z e bytes (inr h) = ap (λ (x : ℤ). body x bytes) h.1 ∙ b.counts h.0 bytes ∙ p.broken h.0 e bytes h.2

  counted_fault : (z : ℤ) (e : FieldFault) (bytes : List ℕ) → IsBytes bytes → body z bytes ≡ Err e → BreaksCount (pos 0) breaks z e bytes
  counted_fault (pos n) e bytes h k = inr (n, refl, p.fault n e bytes h (sym (b.counts n bytes) ∙ k))
  counted_fault (negsuc n) e bytes h k = let same = sym k ∙ b.refuses n bytes in inl (omega (arith, ints), cc)

  pub announces_count : Announces s (λ v. pos (count v)) payload fits (BreaksCount (pos 0) breaks) body
  announces_count = record { small = p.small; again = λ v rest h. b.counts (count v) (payload v ++ rest) ∙ p.again v rest h; takes = counted_takes; broken = counted_broken; fault = counted_fault }

module _ {X : Type 0} (s : Size) (count : X → ℕ) (payload : X → List ℕ) (fits : X → Type 0) (breaks : ℕ → FieldFault → List ℕ → Type 0) (read : ℕ → List ℕ → At X) (p : Counts s count payload fits breaks read) (body : ℤ → List ℕ → At (Option X)) (b : IsCountedOrNull read body) where
  null_small : (o : Option X) → FitsOrNull fits o → FitsSigned (width s) (null_or count o)
  null_small None h = null_fits s
  null_small (Some v) h = p.small v h

  null_again : (o : Option X) (rest : List ℕ) → FitsOrNull fits o → body (null_or count o) (nothing_or payload o ++ rest) ≡ Ok (o, rest)
  null_again None rest h = b.null rest
  null_again (Some v) rest h = b.counts (count v) (payload v ++ rest) ∙ ap (map_read Some) (p.again v rest h)

  null_takes : (z : ℤ) (bytes : List ℕ) (o : Option X) (rest : List ℕ) → FitsSigned (width s) z → IsBytes bytes → body z bytes ≡ Ok (o, rest) → FitsOrNull fits o × (null_or count o ≡ z) × (bytes ≡ nothing_or payload o ++ rest)
  null_takes (pos n) bytes o rest f h e =
      let m = map_read_ok Some (read n bytes) o rest (sym (b.counts n bytes) ∙ e) in
      let t = p.takes n bytes m.0 rest f h m.1 in
      subst (λ q. FitsOrNull fits q × (null_or count q ≡ pos n) × (bytes ≡ nothing_or payload q ++ rest)) m.2 (t.0, ap pos t.1, t.2)
  null_takes (negsuc zero) bytes o rest f h e =
      let d = done_is None o bytes rest (sym (b.null bytes) ∙ e) in
      subst (λ q. FitsOrNull fits q × (null_or count q ≡ negsuc 0) × (bytes ≡ nothing_or payload q ++ rest)) d.0 (tt, refl, d.1)
  null_takes (negsuc (suc n)) bytes o rest f h e = let clash = sym e ∙ b.refuses n bytes in absurd cc

  null_broken : (z : ℤ) (e : FieldFault) (bytes : List ℕ) → BreaksCount (negsuc 0) breaks z e bytes → body z bytes ≡ Err e
  null_broken (pos n) e bytes (inl h) = absurd (omega (arith, ints, h.0))
  null_broken (negsuc zero) e bytes (inl h) = absurd (omega (arith, ints, h.0))
  null_broken (negsuc (suc n)) e bytes (inl h) = b.refuses n bytes ∙ ap Err (sym h.1)
  null_broken z e bytes (inr h) = ap (λ (x : ℤ). body x bytes) h.1 ∙ b.counts h.0 bytes ∙ ap (map_read Some) (p.broken h.0 e bytes h.2)

  null_fault : (z : ℤ) (e : FieldFault) (bytes : List ℕ) → IsBytes bytes → body z bytes ≡ Err e → BreaksCount (negsuc 0) breaks z e bytes
  null_fault (pos n) e bytes h k = inr (n, refl, p.fault n e bytes h (map_read_err Some (read n bytes) e (sym (b.counts n bytes) ∙ k)))
  null_fault (negsuc zero) e bytes h k = let clash = sym k ∙ b.null bytes in absurd cc
  null_fault (negsuc (suc n)) e bytes h k = let same = sym k ∙ b.refuses n bytes in inl (omega (arith, ints), cc)

  pub announces_or_null : Announces s (null_or count) (nothing_or payload) (FitsOrNull fits) (BreaksCount (negsuc 0) breaks) body
  announces_or_null = record { small = null_small; again = null_again; takes = null_takes; broken = null_broken; fault = null_fault }
