-- How the broker of a snapshot is set up, and what it holds where it is set up with more than the snapshot has.
use Rattle.std.proofs.Common.{◌≡◌, inl, inr, ℕ, ◌+◌, ◌-◌, ◌<◌, ◌≤◌, arith, Bool, true, false, List, [], ◌∷◌, length, Option, Some, None, refl, sym, ap, subst, ◌∙◌, true≢false}
use Rattle.std.specs.Prelude.{◌⊎◌, IfSome, is_some}
use Rattle.std.specs.List.{AllByRecursion}
use Rattle.std.proofs.lemmas.Int.{ints}
use Rattle.std.proofs.Math.Seq.{drop-append_seam}
use Rattle.copy_images.proofs.FirstFaults.{one_copy}
use Rattle.broker_state.specs.declared.config.Role.{Role}
use Rattle.broker_state.specs.declared.config.Role.TheVariants.{Leader, Follower}
use Rattle.broker_state.specs.State.{ConfigValue, State, new_state, with_content}
use Rattle.broker_state.specs.Sound.{IsSound}
use Rattle.broker_state.specs.Producers.{with_next_id}
use Rattle.exact_replies.specs.SameHeld.{AskForTheSame, HoldTheSame}
use Rattle.snapshots.specs.declared.writing.SnapshotId.{SnapshotId}
use Rattle.snapshots.specs.Heads.{SnapshotValue, snapshot_said}
use Rattle.state_snapshots.specs.Restoring.{Kept, IsRestored, IsTaken, with_kept}
use Rattle.state_snapshots.specs.Snapshots.{AreCounted, IsReadable, images_of, role_number, snapshot_bytes, state_head, state_said}
use Rattle.state_snapshots.proofs.ReadBack.{have_images, kept_of, partitions_back, sound_apart, written_there}
use Rattle.data_directory.specs.declared.names.Name.{Name}
use Rattle.data_directory.specs.declared.names.Name.TheVariants.{Snapshot, Journal}
use Rattle.data_directory.specs.Directories.{DirectoryState, KeepsOthers}
use Rattle.kept_rotations.specs.Moments.{AreOfMoment, id_of}
use Rattle.kept_rotations.specs.Steps.{IsBelow}
use Rattle.kept_rotations.proofs.Touched.{snapshot_no_journal, snapshot_not_making, journal_not_making, same_journal, same_snapshot}
use Rattle.kept_starts.specs.declared.snapshot.Shape.{Shape}
use Rattle.kept_starts.specs.declared.snapshot.Shape.TheVariants.{Former, Asked}
use Rattle.kept_starts.specs.declared.standing.Row.{Row}
use Rattle.kept_starts.specs.Growth.{HasTopicsOf, HoldsMore, HoldsStill, IsSetUp, KnowsSnapshots, asks_more, takes_its_own}
use Rattle.kept_starts.specs.Removals.{HasWholeRow, IsOfStart, StaysWhole, StopsStanding}
use Rattle.kept_starts.specs.Rows.{IsShortened}
use Rattle.kept_starts.specs.Starts.{HoldsImages, LeadAsAsked}
use Rattle.kept_starts.proofs.Elsewhere.{held_elsewhere, same_elsewhere}

-- ---- how it is set up

own_is_grown : (shape : Shape) (is_grown : Bool) → takes_its_own shape is_grown ≡ true → is_grown ≡ true
own_is_grown Former is_grown is = is
own_is_grown Asked is_grown is = absurd (true≢false (sym is))

pub set_up_so : (asked own set_up : ConfigValue) (shape : Shape) (is_grown is_its_own : Bool) (head : SnapshotValue) → head.role ≡ role_number asked.role → is_grown ≡ asks_more asked own
    → is_its_own ≡ takes_its_own shape is_grown → (is_its_own ≡ true → set_up ≡ own) → (is_its_own ≡ false → HasTopicsOf asked set_up) → IsSetUp asked shape is_grown head set_up
set_up_so asked own set_up shape is_grown is_its_own head role grows same before after = record {
  role = role;
  as_asked = λ none. after (same ∙ none);
  as_before = λ is. ap (asks_more asked) (before (same ∙ is)) ∙ (sym grows ∙ own_is_grown shape is_grown is);
}

-- ---- what it holds

same_role : (a b : Role) → role_number a ≡ role_number b → a ≡ b
same_role Leader Leader same = refl
same_role Leader Follower same = absurd (omega (arith, ints, same))
same_role Follower Leader same = absurd (omega (arith, ints, same))
same_role Follower Follower same = refl

config_kept : (ps : List Kept) (s : State) → (with_kept s ps).config ≡ s.config
config_kept [] s = refl
config_kept (p ∷ ps) s = config_kept ps (with_content s p.topic p.partition p.content)

-- what was written of a broker is held still by one that is set up otherwise
pub held_again : (known found : Option (List ℕ)) (id : SnapshotId) (asked config : ConfigValue) (led held : State) → is_some known ≡ true → is_some found ≡ true → AreOfMoment known id led
    → IfSome known (λ bytes. IfSome found (λ file. file ≡ bytes)) → (images : HoldsImages found config held) → images.head.role ≡ role_number asked.role → HasTopicsOf asked config
    → IsSound led → AreCounted led → IsReadable id led → HoldsMore led held
held_again None found id asked config led held has file written same images role topics sound counted readable = absurd (true≢false (sym has))
held_again (Some bytes) None id asked config led held has file written same images role topics sound counted readable = absurd (true≢false (sym file))
held_again (Some bytes) (Some file) id asked config led held has there written same images role topics sound counted readable =
    let back = written_there have_images one_copy id led (new_state config) held images.head images.key file images.at sound counted readable (same ∙ written) images.stands images.restored in
    let made : held ≡ with_next_id (with_kept (new_state config) (kept_of led.topics)) led.next_producer =
    images.restored.state
    ∙ ap (λ (ps : List Kept). with_next_id (with_kept (new_state config) ps) images.head.next_producer) back.0
    ∙ ap (λ (h : SnapshotValue). with_next_id (with_kept (new_state config) (kept_of led.topics)) h.next_producer) back.1 in
    let numbers : role_number led.config.role ≡ role_number asked.role = sym (ap (λ (h : SnapshotValue). h.role) back.1) ∙ role in
    let roles : led.config.role ≡ held.config.role =
    same_role led.config.role asked.role numbers ∙ sym topics.role
    ∙ sym (ap (λ (s : State). s.config.role) made ∙ ap (λ (g : ConfigValue). g.role) (config_kept (kept_of led.topics) (new_state config))) in
    held_elsewhere config led held (sound_apart led sound) (subst (AllByRecursion (IsTaken (new_state config))) back.0 images.restored.taken) made roles

-- ---- the law

module _ (id : SnapshotId) (s after : State) (g : ConfigValue) (sound : IsSound s) (counted : AreCounted s)
    (made : IsRestored (snapshot_said (state_said id.number s)) (Some (snapshot_bytes id s)) (length (state_head id s)) (new_state g) after) where
  parts : made.partitions ≡ kept_of s.topics
  parts = partitions_back have_images one_copy id s (new_state g) after (snapshot_said (state_said id.number s)) (snapshot_bytes id s) (length (state_head id s)) sound counted refl
      (drop-append_seam (state_head id s) (images_of s.topics)) made

  state : after ≡ with_next_id (with_kept (new_state g) (kept_of s.topics)) s.next_producer
  state = made.state ∙ ap (λ (ps : List Kept). with_next_id (with_kept (new_state g) ps) s.next_producer) parts

  taken : AllByRecursion (IsTaken (new_state g)) (kept_of s.topics)
  taken = subst (AllByRecursion (IsTaken (new_state g))) parts made.taken

  role : s.config.role ≡ g.role → s.config.role ≡ after.config.role
  role same = same ∙ sym (ap (λ (x : State). x.config.role) state ∙ ap (λ (c : ConfigValue). c.role) (config_kept (kept_of s.topics) (new_state g)))

  more_of : s.config.role ≡ g.role → HoldsMore s after
  more_of same = held_elsewhere g s after (sound_apart s sound) taken state (role same)

  same_of : AskForTheSame g s.config → HoldTheSame s after
  same_of asked = same_elsewhere g s after sound.topics (sound_apart s sound) taken state (role (sym asked.role)) asked

pub restored_same : (id : SnapshotId) (s after : State) (g : ConfigValue) → IsSound s → AreCounted s → AskForTheSame g s.config
    → IsRestored (snapshot_said (state_said id.number s)) (Some (snapshot_bytes id s)) (length (state_head id s)) (new_state g) after → HoldTheSame s after
restored_same id s after g sound counted asked made = same_of id s after g sound counted made asked

pub restored_more : (id : SnapshotId) (s after : State) (g : ConfigValue) → IsSound s → AreCounted s → s.config.role ≡ g.role
    → IsRestored (snapshot_said (state_said id.number s)) (Some (snapshot_bytes id s)) (length (state_head id s)) (new_state g) after → HoldsMore s after
restored_more id s after g sound counted same made = more_of id s after g sound counted made same

-- ---- of a start

-- a snapshot of a broker, read again at once by one that is to have more
module _ {X F : Type 0} (state : X → DirectoryState) (gives : X → Name → F → Type 0) (seen : F → Option (List ℕ)) (asked : ConfigValue) (led : State) (sound : IsSound led) where
  pub still_held : (d : X) (number last : ℕ) (is_grown : Bool) (now : State) → last ≡ number → HasWholeRow (state d) number led
      → LeadAsAsked (state d) (gives d) seen asked Asked is_grown number last now → HoldsStill (KnowsSnapshots state seen) led now
  still_held d number last is_grown now same whole lead = λ knows can.
      let former = lead.lead.former in
      let held = former.of_snapshot in
      subst (HoldsMore led) (sym (lead.unchanged (sym same)))
      (held_again ((state d).bytes number) (seen held.file) (id_of number whole.2.0) asked held.config led former.held (knows.snapshots d number held.is_its.there) (knows.files held.file) whole.2.1
      held.its_bytes held.holds lead.set_up.role (lead.set_up.as_asked refl) sound can.counted (can.readable number whole.2.0))

  -- the row is that of one number alone
  alone : (number : ℕ) (row taken : Row) → row.snapshot ≡ number → row.last ≡ number → IsShortened row taken → (taken.snapshot ≡ number) × (taken.last ≡ number)
  alone number row taken first last is = (is.0 ∙ first, by is.1)
    where
      by : (taken.last ≡ row.last) ⊎ ((row.snapshot < row.last) × (taken.last ≡ row.last - 1)) → taken.last ≡ number
      by (inl same) = same ∙ last
      by (inr shorter) = absurd (omega (arith, shorter.0, first, last))

  pub grown_holds : (d : X) (number snapshot last : ℕ) (row : Row) (is_grown : Bool) (now : State) → row.snapshot ≡ number → row.last ≡ number
      → IsShortened row (record { snapshot = snapshot; last = last }) → HasWholeRow (state d) number led → LeadAsAsked (state d) (gives d) seen asked Asked is_grown snapshot last now
      → HoldsStill (KnowsSnapshots state seen) led now
  grown_holds d number snapshot last row is_grown now first end is whole lead =
      let ends = alone number row (record { snapshot = snapshot; last = last }) first end is in
      still_held d number last is_grown now ends.1 whole (subst (λ (n : ℕ). LeadAsAsked (state d) (gives d) seen asked Asked is_grown n last now) ends.0 lead)

  -- ---- where that stops

  no_lower : (number : ℕ) (name : Name) → (name ≡ Snapshot number) ⊎ (name ≡ Journal number) → IsBelow number name → ⊥
  no_lower number name (inl is) (low, below, inl journal) = snapshot_no_journal number low (sym is ∙ journal)
  no_lower number name (inl is) (low, below, inr other) = let e : number ≡ low = same_snapshot number low (sym is ∙ other) in absurd (omega (arith, e, below))
  no_lower number name (inr is) (low, below, inl other) = let e : number ≡ low = same_journal number low (sym is ∙ other) in absurd (omega (arith, e, below))
  no_lower number name (inr is) (low, below, inr other) = snapshot_no_journal low number (sym other ∙ is)

  own_snapshot : (number : ℕ) → IsOfStart number number (Snapshot number) → ⊥
  own_snapshot number (inl (inl making)) = snapshot_not_making number making
  own_snapshot number (inl (inr (inl next))) = snapshot_no_journal number (number + 1) next
  own_snapshot number (inl (inr (inr below))) = no_lower number (Snapshot number) (inl refl) below
  own_snapshot number (inr (higher, above, other)) = let e : number ≡ higher = same_snapshot number higher other in absurd (omega (arith, e, above))

  own_journal : (number : ℕ) → IsOfStart number number (Journal number) → ⊥
  own_journal number (inl (inl making)) = journal_not_making number making
  own_journal number (inl (inr (inl next))) = let e : number ≡ number + 1 = same_journal number (number + 1) next in absurd (omega (arith, e))
  own_journal number (inl (inr (inr below))) = no_lower number (Journal number) (inr refl) below
  own_journal number (inr (higher, above, other)) = snapshot_no_journal higher number (sym other)

  whole_stays : (number : ℕ) (d d' : DirectoryState) → KeepsOthers (IsOfStart number number) d d' → HasWholeRow d number led → HasWholeRow d' number led
  whole_stays number d d' keeps whole = (
    subst (λ (o : Option Bool). IfSome o (λ known. known ≡ true)) (sym (keeps.there (Snapshot number) (own_snapshot number))) whole.0,
    subst (λ (o : Option Bool). IfSome o (λ known. known ≡ true)) (sym (keeps.there (Journal number) (own_journal number))) whole.1,
    (whole.2.0, subst (λ (o : Option (List ℕ)). AreOfMoment o (id_of number whole.2.0) led) (sym (keeps.bytes number (own_snapshot number))) whole.2.1),
  )

  pub stays_whole : (d d' : X) (number : ℕ) (row : Row) → row.snapshot ≡ number → row.last ≡ number → HasWholeRow (state d) number led
      → StopsStanding (state d) (gives d) seen asked Asked row (state d') → StaysWhole (KnowsSnapshots state seen) (state d') number led
  stays_whole d d' number row first last whole (inl same) =
      let from : number ≤ number = omega arith in
      (number, led, from, inl refl, subst (λ (s : DirectoryState). HasWholeRow s number led) (sym same) whole)
  stays_whole d d' number row first last whole (inr behind) = by behind.names
    where
      ends : (behind.taken.snapshot ≡ number) × (behind.taken.last ≡ number)
      ends = alone number row behind.taken first last behind.shortens

      by : KeepsOthers (IsOfStart behind.taken.snapshot behind.taken.last) (state d) (state d')
          ⊎ ((higher : ℕ) × (behind.taken.snapshot < higher) × HasWholeRow (state d') higher behind.led) → StaysWhole (KnowsSnapshots state seen) (state d') number led
      by (inl keeps) =
          let from : number ≤ number = omega arith in
          let own = subst (λ (n : ℕ). KeepsOthers (IsOfStart n number) (state d) (state d')) ends.0
          (subst (λ (n : ℕ). KeepsOthers (IsOfStart behind.taken.snapshot n) (state d) (state d')) ends.1 keeps) in
          (number, led, from, inl refl, whole_stays number (state d) (state d') own whole)
      by (inr (higher, above, new)) =
          let lead = subst (λ (n : ℕ). LeadAsAsked (state d) (gives d) seen asked Asked behind.is_grown n behind.taken.last behind.led) ends.0 behind.lead in
          (higher, behind.led, omega (arith, ends.0, above), inr (still_held d number behind.taken.last behind.is_grown behind.led ends.1 whole lead), new)
