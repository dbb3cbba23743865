-- Fields that are all of some bytes: what is encoded is read, and what is read is encoded.
use Rattle.std.proofs.Common.{◌≡◌, ℕ, Bool, true, false, cond, eqb, List, [], ◌∷◌, ◌++◌, length, Some, None, Ok, Err, refl, sym, ap, subst, ◌∙◌, arith}
use Rattle.std.proofs.lemmas.Bool.{eqb-true}
use Rattle.std.proofs.lemmas.List.{append-nil}
use Rattle.frame_fields.specs.Fields.{Fields, Value, encoded, Fits}
use Rattle.frame_fields.specs.Frames.{IsBytes}
use Rattle.frame_fields.specs.Reading.{At, read_fields}
use Rattle.frame_fields.proofs.FieldLaws.{encodes_read, read_encodes}
use Rattle.group_offsets.specs.WholeFields.{all_of}

pub passed : {T : Type 0} (b : Bool) (x y : T) → cond b (Some x) None ≡ Some y → (b ≡ true) × (x ≡ y)
passed true x y e = (refl, cc)
passed false x y e = absurd cc

no_bytes : (bytes : List ℕ) → length bytes ≡ 0 → bytes ≡ []
no_bytes [] e = refl
no_bytes (b ∷ bytes) e = absurd (omega (arith, e))

module _ (d : Fields) where
  pub all_again : (v : Value d) → Fits d v → all_of (read_fields d (encoded d v)) ≡ Some v
  all_again v fits = ap all_of (encodes_read d v (encoded d v) [] (record { fits = fits; parts = sym (append-nil (encoded d v)) }))

  pub all_takes : (bytes : List ℕ) (v : Value d) → IsBytes bytes → all_of (read_fields d bytes) ≡ Some v → Fits d v × (bytes ≡ encoded d v)
  all_takes bytes v is e = by (read_fields d bytes) refl e
    where
      by : (r : At (Value d)) → read_fields d bytes ≡ r → all_of r ≡ Some v → Fits d v × (bytes ≡ encoded d v)
      by (Ok x) read some =
          let p = passed (eqb (length x.1) 0) x.0 v some in
          let none : x.1 ≡ [] = no_bytes x.1 (eqb-true (length x.1) 0 p.0) in
          let is_encoded = read_encodes d x.0 bytes x.1 is read in (
            subst (Fits d) p.1 is_encoded.fits,
            is_encoded.parts ∙ ap (λ (rest : List ℕ). encoded d x.0 ++ rest) none ∙ append-nil (encoded d x.0) ∙ ap (encoded d) p.1,
          )
      by (Err f) read some = absurd cc
