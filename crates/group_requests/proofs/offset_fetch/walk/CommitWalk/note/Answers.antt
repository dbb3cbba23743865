use Rattle.std.proofs.Common.{◌≡◌, true, false, List, ℕ, take, drop, length, refl, sym, ap, subst, ◌∙◌}
use Rattle.std.specs.Prelude.{bytes_eq}
use Rattle.std.specs.Option.{option_map, option_copied_mut, is_some}
use Rattle.batch_codec.specs.Views.{record_value}
use Rattle.group_requests.specs.OffsetFetch.Walks.{slot_value, slot_in, slot_at}
use Rattle.group_requests.proofs.OffsetWalks.{behind, other_front, not_wanted, noted}
use Rattle.group_requests.proofs.offset_fetch.walk.CommitWalk.note.Goals as goal

pub returns-in_default-strip_prefix : goal.returns-in_default-strip_prefix
returns-in_default-strip_prefix g c = record {
  front = refl;
  slots = λ rest. other_front c.args.stretch c.args.self.now.front.items rest c.in-Some.key.now (record_value c.args.rec.now) (slot_at c.args.self.now rest) (ap (option_map (λ k. k.now)) c.in-Some.is)
      (subst (λ (front : List ℕ). bytes_eq (take (length front) c.in-Some.key.now) front ≡ false) c.deref.ensures.value c.in_default-strip_prefix.ensures.cases);
}

pub returns-then-fill : goal.returns-then-fill
returns-then-fill g c = record {
  front = refl;
  slots = λ q.
      let some = ap is_some (sym c.get_mut.ensures.value ∙ ap option_copied_mut c.in-Some-get_mut.is) in
      let cases = c.in-Some-strip_prefix.ensures.cases in
      let written = (c.get_mut.follows.holds c.fill.new.slot).3 some in
      noted (λ k. k.items) _ (λ x y. refl) c.args.stretch c.args.self.now.front.items c.deref.result.now c.in-Some-strip_prefix.rest.now c.in-Some.key.now q (record_value c.args.rec.now) c.args.self.now.slots.entries (c.get_mut.follows.lender c.fill.new.slot).entries c.in-Some-get_mut.slot.now c.fill.new.slot
      (ap (option_map (λ k. k.now)) c.in-Some.is) c.deref.ensures.value cases.0 cases.1 (sym c.get_mut.ensures.value ∙ ap option_copied_mut c.in-Some-get_mut.is) c.fill.ensures written.1 written.3;
}

pub returns-else-fill : goal.returns-else-fill
returns-else-fill g c = record {
  front = refl;
  slots = λ q.
      let some = ap is_some (sym c.get_mut.ensures.value ∙ ap option_copied_mut c.in-Some-get_mut.is) in
      let cases = c.in-Some-strip_prefix.ensures.cases in
      let written = (c.get_mut.follows.holds c.fill.new.slot).3 some in
      noted (λ k. k.items) _ (λ x y. refl) c.args.stretch c.args.self.now.front.items c.deref.result.now c.in-Some-strip_prefix.rest.now c.in-Some.key.now q (record_value c.args.rec.now) c.args.self.now.slots.entries (c.get_mut.follows.lender c.fill.new.slot).entries c.in-Some-get_mut.slot.now c.fill.new.slot
      (ap (option_map (λ k. k.now)) c.in-Some.is) c.deref.ensures.value cases.0 cases.1 (sym c.get_mut.ensures.value ∙ ap option_copied_mut c.in-Some-get_mut.is) c.fill.ensures written.1 written.3;
}

pub returns-in-None : goal.returns-in-None
returns-in-None g c = record {
  front = refl;
  slots = λ q.
      let cases = c.in-Some-strip_prefix.ensures.cases in
      let parts = behind c.args.self.now.front.items c.in-Some.key.now c.in-Some-strip_prefix.rest.now
      (subst (λ (front : List ℕ). bytes_eq (take (length front) c.in-Some.key.now) front ≡ true) c.deref.ensures.value cases.0)
      (cases.1 ∙ ap (λ (front : List ℕ). drop (length front) c.in-Some.key.now) c.deref.ensures.value) in
      ap (λ m. slot_in m q) c.get_mut.follows.holds-at-none
      ∙ not_wanted c.args.stretch c.args.self.now.front.items c.in-Some-strip_prefix.rest.now c.in-Some.key.now q (record_value c.args.rec.now) (slot_at c.args.self.now)
      (ap (option_map (λ k. k.now)) c.in-Some.is) parts (ap (option_map slot_value) (sym c.get_mut.ensures.value ∙ ap option_copied_mut c.in-None.is));
}
