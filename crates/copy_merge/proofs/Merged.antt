-- A merge of two copies is a patch by the delta of one for which nothing was asked.
use Rattle.std.proofs.Common.{◌≡◌, ℤ, pos, List, [], map, sym, ap, ◌∙◌, arith}
use Rattle.std.specs.Prelude.{Result, Ok, Err, OnOk, IfErr}
use Rattle.std.proofs.lemmas.Int.{ints}
use Rattle.batch_codec.specs.Values.{BatchValue}
use Rattle.cover_ranges.specs.Runs.{Runs}
use Rattle.cover_ranges.proofs.RunsFrom.{from_canonical}
use Rattle.content.specs.Content.{Content, IsContent}
use Rattle.content.specs.Joins.{join, Agree}
use Rattle.deltas.specs.Entries.{Entry}
use Rattle.deltas.specs.Entries.Entry.{Sent}
use Rattle.deltas.specs.Deltas.{Delta, delta_of}
use Rattle.deltas.specs.Patches.{patch}
use Rattle.deltas.specs.Accepting.{Accepts, IsFirstFault}
use Rattle.deltas.proofs.Validity.{delta_is}
use Rattle.deltas.proofs.Nothing.{whole_patch, whole_accepted, whole_accepted_at}
use Rattle.side_by_side.specs.Telling.{IsTold}
use Rattle.copy_merge.specs.Merges.{IsFirstDisagreement}

-- what a copy tells: each of its batches as a whole
abbrev pub whole : Content → Delta
whole b = delta_of b []

pub is_told : (b : Content) (start : ℤ) (kept : List BatchValue) (covered : Runs) → IsContent b → start ≡ b.start → kept ≡ b.kept → covered ≡ b.cover
    → IsTold start (λ (es : List Entry). es ≡ map Sent kept) (λ (runs : Runs). covered ≡ runs) (whole b)
is_told b start kept covered is starts all seen = record {
  valid = delta_is b [] is (from_canonical (pos 0) [] (omega (arith, ints)) tt);
  start_is = starts;
  entries = ap (map Sent) (sym all);
  cover = seen;
}

pub agreed : {T E : Type 0} (r : Result T E) (a b : Content) (Is : Delta → Type 0) → Is (whole b) → OnOk r ((e : Delta) → Is e → Accepts a e) → OnOk r (Agree a b)
agreed (Ok v) a b Is told accepts = (whole_accepted b a).0 (accepts (whole b) told)
agreed (Err v) a b Is told accepts = tt

first_disagreement : (a b : Content) (base : ℤ) → IsFirstFault a (whole b) base → IsFirstDisagreement a b base
first_disagreement a b base fault = (
  λ agree. fault.0 ((whole_accepted_at b a base).1 agree),
  λ lower less. (whole_accepted_at b a lower).0 (fault.1 lower less),
)

pub disagreed : {T : Type 0} (r : Result T ℤ) (a b : Content) (Is : Delta → Type 0) → Is (whole b) → IfErr r (λ base. (e : Delta) → Is e → IsFirstFault a e base) → IfErr r (IsFirstDisagreement a b)
disagreed (Ok v) a b Is told refuses = tt
disagreed (Err base) a b Is told refuses = first_disagreement a b base (refuses (whole b) told)

pub merged : {T E : Type 0} (r : Result T E) (a b c : Content) (Is : Delta → Type 0) → Is (whole b) → OnOk r ((e : Delta) → Is e → c ≡ patch a e) → OnOk r (c ≡ join a b)
merged (Ok v) a b c Is told patches = patches (whole b) told ∙ whole_patch b a
merged (Err v) a b c Is told patches = tt
