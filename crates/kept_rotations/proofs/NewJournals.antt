-- A journal without a group.
use Rattle.std.proofs.Common.{◌≡◌, ℕ, ◌+◌, false, List, [], ◌++◌, length, Option, Some, None, refl, sym, ap, subst, ◌∙◌, append-nil}
use Rattle.std.specs.Prelude.{IfSome}
use Rattle.std.specs.Io.KnownBytes.{append_known}
use Rattle.journal.specs.declared.head.Head.{Head}
use Rattle.journal.specs.declared.head.Before.{Before}
use Rattle.journal.specs.declared.layout.TheConstants.{HEAD_SIZE}
use Rattle.journal.specs.Files.{head_bytes}
use Rattle.journal.specs.Journals.{JournalState, IsHeld, IsJournal}
use Rattle.kept_sessions.specs.Keeping.{HoldsFrames}
use Rattle.kept_rotations.specs.GoingOn.{HasHeadAlone, stood_of}
use Rattle.kept_rotations.proofs.Ids.{stood_still}

-- a file without bytes, and then a head, holds no frames
pub head_alone : (start : ℕ) (key : List ℕ) (h : Head) (o o' : Option (List ℕ)) → start ≡ HEAD_SIZE → IfSome o (λ file. file ≡ []) → o' ≡ append_known o (head_bytes h) → IfSome o' (λ file. length file ≡ HEAD_SIZE) → IfSome o' (λ file. HoldsFrames start key file [])
head_alone start key h None o' begins none is size = subst (λ (x : Option (List ℕ)). IfSome x (λ file. HoldsFrames start key file [])) (sym is) tt
head_alone start key h (Some file) o' begins none is size =
    let whole : length (file ++ head_bytes h) ≡ HEAD_SIZE = subst (λ (x : Option (List ℕ)). IfSome x (λ file. length file ≡ HEAD_SIZE)) is size in
    subst (λ (x : Option (List ℕ)). IfSome x (λ file. HoldsFrames start key file [])) (sym is) (record {
      head = head_bytes h;
      groups = [];
      size = ap (λ (l : List ℕ). length (l ++ head_bytes h)) (sym none) ∙ (whole ∙ sym begins);
      parts = ap (λ (l : List ℕ). l ++ head_bytes h) none ∙ sym (append-nil (head_bytes h));
      valid = tt;
      frames_are = refl;
    })

-- it has just that head
pub head_there : (key : List ℕ) (h : Head) (o o' : Option (List ℕ)) → IfSome o (λ file. file ≡ []) → o' ≡ append_known o (head_bytes h) → key ≡ h.key
    → IfSome o' (λ file. file ≡ head_bytes (record { meaning = h.meaning; number = h.number; key = key; before = h.before }))
head_there key h None o' none is same = subst (λ (x : Option (List ℕ)). IfSome x (λ file. file ≡ head_bytes (record { meaning = h.meaning; number = h.number; key = key; before = h.before }))) (sym is) tt
head_there key h (Some file) o' none is same =
    subst (λ (x : Option (List ℕ)). IfSome x (λ file. file ≡ head_bytes (record { meaning = h.meaning; number = h.number; key = key; before = h.before }))) (sym is)
    (ap (λ (l : List ℕ). l ++ head_bytes h) none ∙ ap (λ (k : List ℕ). head_bytes (record { meaning = h.meaning; number = h.number; key = k; before = h.before })) (sym same))

-- it says of the journal before what is so of that still
pub head_behind : {D : Type 0} (seen : D → Option (List ℕ)) (number last : ℕ) (before : Before) (old mid made now : JournalState D) → number ≡ last + 1 → now ≡ made → before ≡ stood_of last mid → mid.key ≡ old.key → mid.end ≡ old.end
    → HasHeadAlone seen number before made → HasHeadAlone seen (last + 1) (stood_of last old) now
head_behind seen number last before old mid made now is same stood key end has =
    subst (λ (b : Before). HasHeadAlone seen (last + 1) b now) (stood ∙ stood_still last old mid key end)
    (subst (λ (j : JournalState _). HasHeadAlone seen (last + 1) before j) (sym same) (subst (λ (n : ℕ). HasHeadAlone seen n before made) is has))

pub drawn_behind : {D : Type 0} (is_drawn : List ℕ → Type 0) (made now : JournalState D) → now ≡ made → is_drawn made.key → is_drawn now.key
drawn_behind is_drawn made now same drawn = subst (λ (j : JournalState _). is_drawn j.key) (sym same) drawn

-- the size that a journal's file has, as long as no call has failed
pub file_size : {D : Type 0} (seen : D → Option (List ℕ)) (may_leave : D → List ℕ → Type 0) (written : D → ℕ → Type 0) (j : JournalState D) → IsJournal seen may_leave written j → (j.end ≡ HEAD_SIZE) → j.has_failed ≡ false → IfSome (seen j.disk) (λ file. length file ≡ HEAD_SIZE)
file_size seen may_leave written j sound end works = by (seen j.disk) (sound.file works)
  where
    by : (o : Option (List ℕ)) → IfSome o (λ file. IsHeld file j.end j.synced (may_leave j.disk)) → IfSome o (λ file. length file ≡ HEAD_SIZE)
    by None held = tt
    by (Some file) held = held.size ∙ end
