-- Reading fields finds exactly their encoding, or their first fault.
use Rattle.std.proofs.Common.{◌≡◌, ℕ, List, [], Ok, Err, refl, sym, ap, ◌∙◌, ◌⊎◌, inl, inr}
use Rattle.frame_fields.specs.declared.error.FieldFault.{FieldFault}
use Rattle.frame_fields.specs.Fields.{Fields, end, one, array, array_or_null, Value, encoded, Fits, Breaks, Encodes}
use Rattle.frame_fields.specs.Reading.{At, read_fields, nothing}
use Rattle.frame_fields.proofs.Numbers.{IsBytes}
use Rattle.frame_fields.proofs.ReaderLaws.{Reads, then_reads, done_is}
use Rattle.frame_fields.proofs.OneField.{field_reads}
use Rattle.frame_fields.proofs.ArrayLaws.{array_reads, array_or_null_reads}

nothing_reads : Reads {X = Unit {0}} (λ v. []) (λ v. Unit {0}) (λ e bytes. ⊥) (λ bytes. Ok (nothing, bytes))
nothing_reads = record {
  again = λ v rest h. refl;
  takes = λ bytes v rest h e. (tt, (done_is nothing v bytes rest e).1);
  broken = λ e bytes h. absurd h;
  fault = λ e bytes h k. absurd cc;
}

-- Reading finds exactly the encodings of these fields, and each fault.
pub reads : (d : Fields) → Reads (encoded d) (Fits d) (Breaks d) (read_fields d)
unfolding encoded Fits Breaks read_fields
reads end = nothing_reads
reads (one f d) = then_reads (field_reads f) (reads d)
reads (array x d) = then_reads (array_reads (encoded x) (Fits x) (Breaks x) (read_fields x) (reads x)) (reads d)
reads (array_or_null x d) = then_reads (array_or_null_reads (encoded x) (Fits x) (Breaks x) (read_fields x) (reads x)) (reads d)

-- ---- the same, as callers cite it

pub encodes_read : (d : Fields) (v : Value d) (bytes rest : List ℕ) → Encodes d v bytes rest → read_fields d bytes ≡ Ok (v, rest)
encodes_read d v bytes rest h = ap (read_fields d) h.parts ∙ (reads d).again v rest h.fits

pub read_encodes : (d : Fields) (v : Value d) (bytes rest : List ℕ) → IsBytes bytes → read_fields d bytes ≡ Ok (v, rest) → Encodes d v bytes rest
read_encodes d v bytes rest h e =
    let t = (reads d).takes bytes v rest h e in
    record { fits = t.0; parts = t.1 }

pub breaks_read : (d : Fields) (e : FieldFault) (bytes : List ℕ) → Breaks d e bytes → read_fields d bytes ≡ Err e
breaks_read d e bytes h = (reads d).broken e bytes h

pub read_breaks : (d : Fields) (e : FieldFault) (bytes : List ℕ) → IsBytes bytes → read_fields d bytes ≡ Err e → Breaks d e bytes
read_breaks d e bytes h k = (reads d).fault e bytes h k

-- ---- exactly one outcome

-- Bytes are the encoding of the fields and a rest, or the fields have a fault.
pub read_or_fault : (d : Fields) (bytes : List ℕ) → IsBytes bytes → ((v : Value d) × (rest : List ℕ) × Encodes d v bytes rest) ⊎ ((e : FieldFault) × Breaks d e bytes)
read_or_fault d bytes h = by (read_fields d bytes) refl
  where
    by : (r : At (Value d)) → read_fields d bytes ≡ r → ((v : Value d) × (rest : List ℕ) × Encodes d v bytes rest) ⊎ ((e : FieldFault) × Breaks d e bytes)
    by (Ok x) is = inl (x.0, x.1, read_encodes d x.0 bytes x.1 h is)
    by (Err e) is = inr (e, read_breaks d e bytes h is)

-- Bytes begin with one encoding of the fields at most.
pub one_value : (d : Fields) (v w : Value d) (bytes rest more : List ℕ) → Encodes d v bytes rest → Encodes d w bytes more → (v ≡ w) × (rest ≡ more)
one_value d v w bytes rest more h k =
    done_is v w rest more (sym (encodes_read d v bytes rest h) ∙ encodes_read d w bytes more k)

pub one_fault : (d : Fields) (e f : FieldFault) (bytes : List ℕ) → Breaks d e bytes → Breaks d f bytes → e ≡ f
one_fault d e f bytes broken broken' =
    let same = sym ((reads d).broken e bytes broken) ∙ (reads d).broken f bytes broken' in
    cc

pub never_both : (d : Fields) (v : Value d) (bytes rest : List ℕ) (e : FieldFault) → Encodes d v bytes rest → Breaks d e bytes → ⊥
never_both d v bytes rest e h broken =
    let clash = sym (encodes_read d v bytes rest h) ∙ breaks_read d e bytes broken in
    absurd cc
