-- What a broker does to the files of its directory, one act after the other, and what a crash leaves of it.
use Rattle.std.specs.Prelude.{◌≡◌, ◌≢◌, ◌⊎◌, ℕ, zero, suc, ◌+◌, ◌<◌, ◌≤◌, List, [], ◌∷◌, ◌++◌, Some, None}
use Rattle.rotation_laws.specs.Directories.{Files, InARow}

-- at one number something else stands, and at all others what stood there
pub record Sets {V : Type 0} (n : ℕ) (v : V) (old new : ℕ → V) : Type 0 where
  pub here : new n ≡ v
  pub others : (m : ℕ) → m ≢ n → new m ≡ old m

-- the journal of this number has these frames, and is the last one
pub record IsLast {X F : Type 0} (d : Files X F) (last : ℕ) (frames : List F) : Type 0 where
  pub there : d.journal last ≡ Some frames
  pub no_later : (m : ℕ) → last < m → d.journal m ≡ None

-- Frames are appended to the last journal.
pub record Appends {X F : Type 0} (more : List F) (old new : Files X F) : Type 0 where
  pub last : ℕ
  pub frames : List F
  pub is_last : IsLast old last frames
  pub journals : Sets last (Some (frames ++ more)) old.journal new.journal
  pub snapshots : (m : ℕ) → new.snapshot m ≡ old.snapshot m

-- A journal is made behind the last one: from then on frames are appended to it.
pub record Opens {X F : Type 0} (old new : Files X F) : Type 0 where
  pub last : ℕ
  pub frames : List F
  pub is_last : IsLast old last frames
  pub journals : Sets (suc last) (Some []) old.journal new.journal
  pub snapshots : (m : ℕ) → new.snapshot m ≡ old.snapshot m

-- A snapshot gets its name, which is higher than that of any other: it has the state in which the journal of its number was
-- made, so this one and those behind it have the frames that came since.
pub record Publishes {X F : Type 0} (leads : X → List F → X → Type 0) (first : X) (frames : List F) (old new : Files X F) : Type 0 where
  pub number : ℕ
  pub state : X
  pub count : ℕ
  pub before : List F
  pub behind : List F
  pub row : InARow old number (suc count) behind
  pub no_later : (m : ℕ) → number + count < m → old.journal m ≡ None
  pub led : leads first before state
  pub all : frames ≡ before ++ behind
  pub is_higher : (m : ℕ) → number ≤ m → old.snapshot m ≡ None
  pub snapshots : Sets number (Some state) old.snapshot new.snapshot
  pub journals : (m : ℕ) → new.journal m ≡ old.journal m

-- A snapshot gets its name that has what one thing more led to than all frames that were appended: so a start adds topics, which
-- stands in no journal. It has the number of the last journal, which has no frame yet, and its name is higher than that of any other.
pub record PublishesMore {X F : Type 0} (leads : X → List F → X → Type 0) (first : X) (frames : List F) (more : F) (old new : Files X F) : Type 0 where
  pub number : ℕ
  pub state : X
  pub is_last : IsLast old number []
  pub led : leads first (frames ++ (more ∷ [])) state
  pub is_higher : (m : ℕ) → number ≤ m → old.snapshot m ≡ None
  pub snapshots : Sets number (Some state) old.snapshot new.snapshot
  pub journals : (m : ℕ) → new.journal m ≡ old.journal m

-- Files below a named snapshot change in whatever way, as they do while they are cut down, piece by piece, and removed. From
-- its number on all stay.
pub record ChangesBelow {X F : Type 0} (old new : Files X F) : Type 0 where
  pub number : ℕ
  pub state : X
  pub named : old.snapshot number ≡ Some state
  pub snapshots : (m : ℕ) → number ≤ m → new.snapshot m ≡ old.snapshot m
  pub journals : (m : ℕ) → number ≤ m → new.journal m ≡ old.journal m

-- what is done beside appends, and leaves what is kept
abbrev pub Rotates : {X F : Type 0} → (leads : X → List F → X → Type 0) (first : X) (frames : List F) (old new : Files X F) → Type 0
Rotates leads first frames old new = Opens old new ⊎ (Publishes leads first frames old new ⊎ ChangesBelow old new)

-- one act, by which the frames that are kept become these
abbrev pub Acts : {X F : Type 0} → (leads : X → List F → X → Type 0) (first : X) (frames : List F) (old : Files X F) (frames' : List F) (new : Files X F) → Type 0
Acts {F = F} leads first frames old frames' new =
    ((more : List F) × Appends more old new × (frames' ≡ frames ++ more))
    ⊎ (((more : F) × PublishesMore leads first frames more old new × (frames' ≡ frames ++ (more ∷ []))) ⊎ (Rotates leads first frames old new × (frames' ≡ frames)))

-- so many acts, one after the other
abbrev pub Runs : {X F : Type 0} → (leads : X → List F → X → Type 0) (first : X) (acts : ℕ) (frames : List F) (old : Files X F) (frames' : List F) (new : Files X F) → Type 0
Runs leads first zero frames old frames' new = (frames' ≡ frames) × (new ≡ old)
Runs {X = X} {F = F} leads first (suc n) frames old frames' new =
    (mid : List F) × (d : Files X F) × Acts leads first frames old mid d × Runs leads first n mid d frames' new

-- a directory that was just made: a snapshot of the first state, and a journal without frames
pub record IsNew {X F : Type 0} (first : X) (d : Files X F) : Type 0 where
  pub snapshot : d.snapshot 1 ≡ Some first
  pub no_snapshot : (m : ℕ) → 1 < m → d.snapshot m ≡ None
  pub journal : d.journal 1 ≡ Some []
  pub no_journal : (m : ℕ) → 1 < m → d.journal m ≡ None

-- What a crash leaves while one more act is under way, where all before it are synced, but for changes below a snapshot: the
-- directory without that act or with it, of an append with some of its frames, from the first on; and of the files below a
-- named snapshot anything, whole, cut, gone or back again.
abbrev pub MayLeave : {X F : Type 0} → (leads : X → List F → X → Type 0) (first : X) (frames : List F) (now : Files X F) (frames' : List F) (left : Files X F) → Type 0
MayLeave {X = X} {F = F} leads first frames now frames' left =
    (d : Files X F) × (Runs leads first 0 frames now frames' d ⊎ Acts leads first frames now frames' d) × ChangesBelow d left
