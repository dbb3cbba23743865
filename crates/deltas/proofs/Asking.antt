-- What a copy that knows what was asked has seen: the base of each batch that the sender only lists.
use Rattle.std.proofs.Common.{◌≡◌, ℤ, pos, ◌+ℤ◌, Bool, true, false, ◌&&◌, ◌||◌, inl, inr, Option, Some, None, [], ◌∷◌, refl, sym, subst, ◌∙◌, arith}
use Rattle.std.specs.Prelude.{◌≤ℤ◌, int_lt, int_le, if◌then◌else◌}
use Rattle.std.specs.Int.{int_max}
use Rattle.std.proofs.lemmas.Int.{ints, clamps}
use Rattle.batch_codec.specs.Values.{BatchValue}
use Rattle.batch_codec.specs.Offsets.{first_offset, last_offset}
use Rattle.cover_ranges.specs.Runs.{Runs, covers, is_within, IsCanonical}
use Rattle.cover_ranges.proofs.RunsFrom.{RunsFrom, canonical_from}
use Rattle.content.specs.ByOffset.{look_up}
use Rattle.content.specs.Content.{Content, IsContent}
use Rattle.content.specs.Joins.{slot_from, slot_at, is_unknown, greater_start, FitsAt}
use Rattle.content.specs.Joins.Slot.{Below}
use Rattle.content_laws.proofs.ByOffset.{look_up-offset}
use Rattle.content_laws.proofs.Slots.{kept_covered, kept_ends}
use Rattle.deltas.specs.Deltas.{covers_any, is_asked}
use Rattle.deltas.specs.Accepting.{IsKnown, IsFor}

-- an offset from first to last that is covered
pub record Met (runs : Runs) (first last : ℤ) : Type 0 where
  pub offset : ℤ
  pub from : first ≤ℤ offset
  pub to : offset ≤ℤ last
  pub covered : covers runs offset ≡ true

met_first : (r : ℤ × ℤ) (rs : Runs) (first last : ℤ) → r.0 ≤ℤ r.1 → first ≤ℤ last → (int_le r.0 last && int_le first r.1) ≡ true → Met (r ∷ rs) first last
met_first r rs first last run span e =
    let starts : r.0 ≤ℤ last = grind (arith, ints, e) in
    let ends : first ≤ℤ r.1 = grind (arith, ints, e) in
    record {
      offset = int_max first r.0;
      from = omega (arith, ints, clamps);
      to = omega (arith, ints, clamps, span, starts);
      covered = here (covers rs (int_max first r.0)) (is_within (int_max first r.0) r) (in_run (int_max first r.0) r.0 r.1 (omega (arith, ints, clamps)) (omega (arith, ints, clamps, run, ends)));
    }
  where
    in_run : (o from to : ℤ) → from ≤ℤ o → o ≤ℤ to → (int_le from o && int_le o to) ≡ true
    in_run o from to l m = grind (arith, ints, l, m)

    here : (s t : Bool) → t ≡ true → (t || s) ≡ true
    here s t f = grind arith

met_later : (r : ℤ × ℤ) (rs : Runs) (first last : ℤ) → Met rs first last → Met (r ∷ rs) first last
met_later r rs first last m = record { offset = m.offset; from = m.from; to = m.to; covered = later (is_within m.offset r) (covers rs m.offset) m.covered }
  where
    later : (t s : Bool) → s ≡ true → (t || s) ≡ true
    later t s f = grind arith

any_met : (low : ℤ) (runs : Runs) (first last : ℤ) → RunsFrom low runs → first ≤ℤ last → covers_any runs first last ≡ true → Met runs first last
any_met low [] first last are span e = absurd cc
any_met low (r ∷ rs) first last are span e = by (int_le r.0 last && int_le first r.1) refl e (any_met (r.1 +ℤ pos 2) rs first last are.3 span)
  where
    by : (t : Bool) → (int_le r.0 last && int_le first r.1) ≡ t → (t || covers_any rs first last) ≡ true → (covers_any rs first last ≡ true → Met rs first last) → Met (r ∷ rs) first last
    by true t f ih = met_first r rs first last are.1 span t
    by false t f ih = met_later r rs first last (ih f)

pub asked_met : (asked : Runs) (b : BatchValue) → IsCanonical asked → first_offset b ≤ℤ last_offset b → is_asked asked b ≡ true → Met asked (first_offset b) (last_offset b)
asked_met asked b canonical span e = any_met (pos 0) asked (first_offset b) (last_offset b) (canonical_from asked canonical) span e

-- the sender's batch fits, so that the receiver has seen all of its span or none
pub asked_seen : (x y : Content) (asked : Runs) (o : ℤ) (b : BatchValue) → IsContent x → IsCanonical asked → IsFor y asked → FitsAt (greater_start y x) x y o
    → look_up first_offset o x.kept ≡ Some b → is_asked asked b ≡ true → y.start ≤ℤ o → covers y.cover o ≡ true
asked_seen x y asked o b is canonical knows fits e a from = by (knows met.offset met.covered)
  where
    base : first_offset b ≡ o
    base = look_up-offset first_offset o x.kept b e

    span : first_offset b ≤ℤ last_offset b
    span = subst (λ (k : ℤ). k ≤ℤ last_offset b) (sym base) (kept_ends x o b is e)

    met : Met asked (first_offset b) (last_offset b)
    met = asked_met asked b canonical span a

    least : x.start ≤ℤ o
    least = is.above o (kept_covered x o b is e)

    after : o ≤ℤ met.offset
    after = subst (λ (k : ℤ). k ≤ℤ met.offset) base met.from

    by : IsKnown y met.offset → covers y.cover o ≡ true
    by (inl less) = let past = after in absurd (omega (arith, ints, less, past, from))
    by (inr seen) = sym ((fits b e).1 (omega (arith, ints, clamps, from, least)) met.offset after met.to) ∙ seen

pub asked_known : (x y : Content) (asked : Runs) (o : ℤ) (b : BatchValue) → IsContent x → IsCanonical asked → IsFor y asked → FitsAt (greater_start y x) x y o
    → look_up first_offset o x.kept ≡ Some b → is_asked asked b ≡ true → is_unknown (slot_at y o) ≡ false
asked_known x y asked o b is canonical knows fits e a = by (int_lt o y.start) (look_up first_offset o y.kept) (covers y.cover o) (λ t. asked_seen x y asked o b is canonical knows fits e a (above t))
  where
    above : int_lt o y.start ≡ false → y.start ≤ℤ o
    above t = grind (arith, ints, t)

    by : (t : Bool) (z : Option BatchValue) (s : Bool) → (t ≡ false → s ≡ true) → is_unknown (if t then Below else slot_from z s) ≡ false
    by true z s seen = refl
    by false (Some w) s seen = refl
    by false None true seen = refl
    by false None false seen = let clash : false ≡ true = seen refl in absurd cc
