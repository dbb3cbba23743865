-- A broker that goes on behind what a snapshot and the frames of former journals led to is one that was started.
use Rattle.std.proofs.Common.{◌≡◌, ℕ, ◌+◌, ◌<◌, ◌≤◌, arith, Bool, true, false, not, List, [], ◌∷◌, ◌++◌, length, take, drop, take-append-drop, Option, None, Some, refl, subst, sym, ap, ◌∙◌, inl, inr, true≢false}
use Rattle.std.specs.Prelude.{◌⊎◌, ◌||◌, IfSome, MatchBool}
use Rattle.std.specs.Option.{option_map}
use Rattle.std.specs.Int.{cast_signed, w64}
use Rattle.std.proofs.lemmas.List.{append-nil, take-take}
use Rattle.broker_state.specs.State.{State}
use Rattle.journal.specs.declared.head.Head.{Head}
use Rattle.journal.specs.declared.head.Before.{Before}
use Rattle.journal.specs.Files.{HasLaterSync, HasNoGroup, head_bytes, head_size}
use Rattle.journal.specs.Heads.{StartsWithJournalHead}
use Rattle.journal.specs.Journals.{JournalState}
use Rattle.journal.specs.Readers.{HasReadUpTo, IsReader, ReaderState, last_synced}
use Rattle.data_directory.specs.declared.names.Name.{Name}
use Rattle.data_directory.specs.declared.names.Name.TheVariants.{Snapshot, Journal}
use Rattle.data_directory.specs.Directories.{DirectoryState, IsThere, KeepsOthers}
use Rattle.sessions.specs.Orders.{World, new_world}
use Rattle.kept_rotations.specs.Below.{replays_then}
use Rattle.kept_rotations.specs.Below.{IsKept, KeptState}
use Rattle.kept_rotations.specs.Below.{HasRecovered, Replays}
use Rattle.kept_rotations.specs.GoingOn.{HasHeadAlone, IsKeptOn, stood_of}
use Rattle.kept_rotations.specs.Moments.{RotationState}
use Rattle.kept_rotations.specs.Steps.{HasCurrentHead, IsNextTaken}
use Rattle.kept_rotations.specs.declared.files.KeptFiles.{KeptFiles}
use Rattle.kept_rotations.specs.declared.opening.TheConstants.{MEANING}
use Rattle.kept_starts.specs.declared.starting.Found.{Found}
use Rattle.kept_starts.specs.Removals.{HasRowThen, HasWholeRow, IsOld}
use Rattle.kept_starts.specs.Starts.{BeginsWith, LeadsTo, IsBehind, IsCurrent, IsFolded, IsReadUp, IsRecovered, GoesOn, GoesOnBehind, GoesOnMeaning, IsStarted, RotatesFrom}

-- ---- frames that lead on

pub leads_on : (s mid after : State) → LeadsTo s mid → LeadsTo mid after → LeadsTo s after
leads_on s mid after first others = record {
  frames = first.frames ++ others.frames;
  replays = replays_then s mid after first.frames others.frames first.replays others.replays;
}

-- ---- the last journal

goes_on : {D : Type 0} (seen : D → Option (List ℕ)) (found node : State) (k : KeptState D) (reader : ReaderState D) → k.world ≡ new_world node → IsReadUp seen found reader node
    → ((first : State) (n : ℕ) → HasRecovered (seen reader.disk) reader.head.key (head_size reader.head) reader.at first node n → IsKept seen first node k) → GoesOn seen found k
goes_on seen found node k reader world up keeps = (
  ap (λ (w : World). w.sessions) world,
  subst (λ (s : State). IsKept seen found s k) (sym (ap (λ (w : World). w.state) world)) (keeps found up.count up.recovered),
)

started : {D : Type 0} (seen : D → Option (List ℕ)) (found : State) (k : KeptState D) → IsRecovered seen found → GoesOn seen found k → IsStarted seen k
started seen found k is on = record {
  no_client = on.0;
  config = is.config;
  held = is.held;
  of_snapshot = is.of_snapshot;
  kept = record { former = is.led.frames; between = found; led = is.led.replays; kept = on.1 };
}

pub started_up : {D : Type 0} (seen : D → Option (List ℕ)) (node : State) (k : KeptState D) (reader : ReaderState D)
    → (found : State) × IsRecovered seen found × IsReadUp seen found reader node → k.world ≡ new_world node
    → ((first : State) (n : ℕ) → HasRecovered (seen reader.disk) reader.head.key (head_size reader.head) reader.at first node n → IsKept seen first node k) → IsStarted seen k
started_up seen node k reader read world keeps = started seen read.0 k read.1 (goes_on seen read.0 node k reader world read.2 keeps)

-- the journal was read to its end
pub read_up : {D : Type 0} (seen : D → Option (List ℕ)) (s after : State) (reader : ReaderState D) (count : ℕ) → IsReader seen reader
    → HasRecovered (seen reader.disk) reader.head.key (head_size reader.head) reader.at s after count → IfSome (seen reader.disk) (λ file. HasNoGroup reader.head.key reader.at (drop reader.at file))
    → IfSome (seen reader.disk) (λ file. HasLaterSync reader.head.key reader.at (drop reader.at file) → ⊥) → IsReadUp seen s reader after
read_up seen s after reader count is recovered ended undamaged = record { is_reader = is; count = count; recovered = recovered; ended = ended; undamaged = undamaged }

-- it has no frame
pub none_recovered : (seen : Option (List ℕ)) (key : List ℕ) (from to : ℕ) (s after : State) (count : ℕ) → HasRecovered seen key from to s after count → count ≡ 0 → after ≡ s
none_recovered seen key from to s after count recovered none = by recovered.frames recovered.replays (recovered.counts ∙ none)
  where
    by : (frames : List (List ℕ)) → Replays s frames after → length frames ≡ 0 → after ≡ s
    by [] replays counts = sym replays
    by (frame ∷ frames) replays counts = absurd (omega (arith, counts))

-- ---- what its frames mean

-- cut behind the groups that were read, a file begins with the head that it began with
pub begins_cut : {D : Type 0} (seen : D → Option (List ℕ)) (reader : ReaderState D) (disk : D) → IsReader seen reader
    → seen disk ≡ option_map (λ file. take reader.at file) (seen reader.disk) → BeginsWith (seen disk) reader.head
begins_cut seen reader disk is cut = subst (λ (o : Option (List ℕ)). BeginsWith o reader.head) (sym cut) (by (seen reader.disk) is.head is.said)
  where
    by : (o : Option (List ℕ)) → IfSome o (λ file. StartsWithJournalHead reader.head file)
        → IfSome o (λ file. (read : HasReadUpTo reader.head.key (head_size reader.head) reader.at file) × (last_synced read.groups ≡ reader.group.synced))
        → BeginsWith (option_map (λ file. take reader.at file) o) reader.head
    by None head said = tt
    by (Some file) head said =
        let far : head_size reader.head ≤ reader.at = omega (arith, said.0.end) in
        let left = take reader.at file in (
          drop (head_size reader.head) left,
          sym (take-append-drop (head_size reader.head) left)
              ∙ ap (λ (l : List ℕ). l ++ drop (head_size reader.head) left) (take-take (head_size reader.head) reader.at file far ∙ head.encoded),
        )

means_as_read : (o : Option (List ℕ)) (head : Head) → head.meaning ≡ MEANING → BeginsWith o head
    → IfSome o (λ file. (h : Head) × (rest : List ℕ) × (h.meaning ≡ MEANING) × (file ≡ head_bytes h ++ rest))
means_as_read None head means begins = tt
means_as_read (Some file) head means begins = (head, begins.0, means, begins.1)

new_as_read : (o : Option (List ℕ)) (head : Head) → IsCurrent head → BeginsWith o head
    → IfSome o (λ file. (h : Head) × (rest : List ℕ) × IsCurrent h × (file ≡ head_bytes h ++ rest))
new_as_read None head current begins = tt
new_as_read (Some file) head current begins = (head, begins.0, current, begins.1)

-- a journal with the head of a new one alone begins with it
begins_alone : {D : Type 0} (seen : D → Option (List ℕ)) (number : ℕ) (before : Before) (journal : JournalState D) → HasHeadAlone seen number before journal
    → BeginsWith (seen journal.disk) (record { meaning = MEANING; number = cast_signed w64 number; key = journal.key; before = Some before })
begins_alone seen number before journal alone = by (seen journal.disk) alone
  where
    by : (o : Option (List ℕ)) → IfSome o (λ file. file ≡ head_bytes (record { meaning = MEANING; number = cast_signed w64 number; key = journal.key; before = Some before }))
        → BeginsWith o (record { meaning = MEANING; number = cast_signed w64 number; key = journal.key; before = Some before })
    by None is = tt
    by (Some file) is = ([], is ∙ sym (append-nil (head_bytes (record { meaning = MEANING; number = cast_signed w64 number; key = journal.key; before = Some before }))))

-- where no snapshot was due the journal's meaning is known already
pub goes_on_meaning : {D F X : Type 0} (seen : D → Option (List ℕ)) (head : Head) (old new : RotationState F) (k k' : KeptState D) (folded grown means current due : Bool) (Q : Type 0) (d d' : X)
    → BeginsWith (seen k.journal.disk) head → (means ≡ true → head.meaning ≡ MEANING) → (current ≡ true → IsCurrent head) → old.files.is_current ≡ current
    → due ≡ (folded || grown || not means) → MatchBool due (HasCurrentHead seen k k' old new) (k'.journal ≡ k.journal) → MatchBool due Q ((new ≡ old) × (d ≡ d')) → GoesOnMeaning seen new k'.journal
goes_on_meaning seen head old new k k' folded grown means current true Q d d' begins meant now tells is keeps folds = by keeps
  where
    by : HasCurrentHead seen k k' old new → GoesOnMeaning seen new k'.journal
    by (inl same) =
        let here : BeginsWith (seen k'.journal.disk) head = subst (λ (o : Option (List ℕ)). BeginsWith o head) (sym same.0.file) begins in
        let known = now (sym tells ∙ same.1) in
        (means_as_read (seen k'.journal.disk) head known.0 here, λ is_current. new_as_read (seen k'.journal.disk) head known here)
    by (inr alone) =
        let head_now : Head = record { meaning = MEANING; number = cast_signed w64 new.files.last; key = k'.journal.key; before = Some (stood_of old.files.last k.journal) } in
        let here = begins_alone seen new.files.last (stood_of old.files.last k.journal) k'.journal alone.0 in
        (means_as_read (seen k'.journal.disk) head_now refl here, λ is_current. new_as_read (seen k'.journal.disk) head_now (refl, refl) here)
goes_on_meaning seen head old new k k' folded grown means current false Q d d' begins meant now tells is keeps folds =
    let known : means ≡ true = grind (arith, is) in
    let here : BeginsWith (seen k'.journal.disk) head = subst (λ (x : JournalState _). BeginsWith (seen x.disk) head) (sym keeps) begins in (
      means_as_read (seen k'.journal.disk) head (meant known) here,
      λ is_current. new_as_read (seen k'.journal.disk) head (now (sym tells ∙ (sym (ap (λ (r : RotationState _). r.files.is_current) folds.0) ∙ is_current))) here,
    )

-- ---- a snapshot is taken

-- the last journal isn't among the files that go
pub last_stays : (d mid : DirectoryState) (snapshot last told : ℕ) → snapshot ≤ last → told ≡ last → KeepsOthers (IsOld snapshot last) d mid → IsThere d (Journal last) true
    → IsThere mid (Journal told) true
last_stays d mid snapshot last told in_order same keeps there =
    subst (λ (n : ℕ). IsThere mid (Journal n) true) (sym same)
    (subst (λ (o : Option Bool). IfSome o (λ known. known ≡ true)) (sym (keeps.there (Journal last) untouched)) there)
  where
    number_of : Name → ℕ
    number_of (Journal n) = n
    number_of other = 0

    is_journal : Name → Bool
    is_journal (Journal n) = true
    is_journal other = false

    lower : (n : ℕ) → n < snapshot → (Journal last ≡ Journal n) ⊎ (Journal last ≡ Snapshot n) → ⊥
    lower n below (inl same_name) = let e : last ≡ n = ap number_of same_name in omega (arith, e, below, in_order)
    lower n below (inr other) = true≢false (ap is_journal other)

    untouched : IsOld snapshot last (Journal last) → ⊥
    untouched (inl making) = true≢false (ap is_journal making)
    untouched (inr (inl next)) = let e : last ≡ last + 1 = ap number_of next in omega (arith, e)
    untouched (inr (inr below)) = lower below.0 below.1 below.2

pub folded : {D : Type 0} (seen : D → Option (List ℕ)) (k new : KeptState D) → new.world ≡ k.world
    → ((first start : State) → IsKept seen first start k → IsKeptOn seen first start new) → IsStarted seen k → IsStarted seen new
folded seen k new world keeps is =
    let on = keeps is.kept.between k.world.state is.kept.kept in
    let all : IsKeptOn seen is.held k.world.state new = record {
      former = is.kept.former ++ on.former;
      between = on.between;
      led = replays_then is.held is.kept.between on.between is.kept.former on.former is.kept.led on.led;
      kept = on.kept;
    } in
    record {
      no_client = subst (λ (w : World). w.sessions ≡ []) (sym world) is.no_client;
      config = is.config;
      held = is.held;
      of_snapshot = is.of_snapshot;
      kept = subst (λ (w : World). IsKeptOn seen is.held w.state new) (sym world) all;
    }

-- it lies behind what was found
pub folded_behind : {F : Type 0} (old new : RotationState F) (found found' : Found) (snapshot last : ℕ) → snapshot ≤ last → old.files.snapshot ≡ snapshot → old.files.last ≡ last
    → found' ≡ found → found.snapshot ≡ snapshot → found.journal ≡ last → IsFolded old new → IsBehind found' new.files
folded_behind old new found found' snapshot last in_order same_snapshot same_last same at behind folds =
    subst (λ (f : Found). IsBehind f new.files) (sym same) (folds.snapshot, (higher folds.last, later folds.last))
  where
    higher : IsNextTaken old new → found.snapshot < new.files.last
    higher (inl next) = omega (arith, next, same_last, at, in_order)
    higher (inr here) = omega (arith, here.0, here.1, same_snapshot, at)

    later : IsNextTaken old new → found.journal ≤ new.files.last
    later (inl next) = omega (arith, next, same_last, behind)
    later (inr here) = omega (arith, here.0, same_last, behind)

-- where one is asked for, or more partitions are, it does, and is there
pub folded_as_asked : {F : Type 0} (d mid new : DirectoryState) (Q : Type 0) (asked grown current is_due : Bool) (old after : RotationState F) (found found' : Found) (snapshot last : ℕ) → snapshot ≤ last
    → IsThere d (Journal last) true → KeepsOthers (IsOld snapshot last) d mid → (old.files.snapshot ≡ snapshot) × (old.files.last ≡ last) × (old.draft ≡ None)
    → found' ≡ found → found.snapshot ≡ snapshot → found.journal ≡ last → found.has_grown ≡ grown → is_due ≡ (asked || grown || not current)
    → (now told : State) → MatchBool is_due (IsFolded old after × HasRowThen mid new old.files.last after.files.last now) Q → told ≡ now → (asked ≡ true) ⊎ (found'.has_grown ≡ true)
    → IsBehind found' after.files × HasWholeRow new after.files.last told
folded_as_asked d mid new Q asked grown current true old after found found' snapshot last in_order there keeps rotates same at behind tells due now told folds alike is = (
  folded_behind old after found found' snapshot last in_order rotates.0 rotates.1 same at behind folds.0,
  subst (HasWholeRow new after.files.last) (sym alike) (folds.1 (last_stays d mid snapshot last old.files.last in_order rotates.1 keeps there)),
)
folded_as_asked d mid new Q asked grown current false old after found found' snapshot last in_order there keeps rotates same at behind tells due now told folds alike is = absurd (by is)
  where
    by : (asked ≡ true) ⊎ (found'.has_grown ≡ true) → ⊥
    by (inl one) = let wrong : true ≡ false = grind (arith, due, one) in true≢false wrong
    by (inr one) =
        let more : grown ≡ true = sym tells ∙ (ap (λ (f : Found). f.has_grown) (sym same) ∙ one) in
        let wrong : true ≡ false = grind (arith, due, more) in
        true≢false wrong

-- snapshots go on from what was found, or behind it
pub folded_or_not : {F X : Type 0} (P : Type 0) (is_due : Bool) (old new : RotationState F) (found found' : Found) (snapshot last : ℕ) (d d' : X) → snapshot ≤ last
    → (old.files.snapshot ≡ snapshot) × (old.files.last ≡ last) × (old.draft ≡ None) → found' ≡ found → found.snapshot ≡ snapshot → found.journal ≡ last
    → MatchBool is_due (IsFolded old new × P) ((new ≡ old) × (d ≡ d')) → (new.draft ≡ None) × GoesOnBehind found'.snapshot found'.journal new.files
folded_or_not P true old new found found' snapshot last d d' in_order rotates same at behind folds =
    (folds.0.draft, inr (folded_behind old new found found' snapshot last in_order rotates.0 rotates.1 same at behind folds.0))
folded_or_not P false old new found found' snapshot last d d' in_order rotates same at behind folds =
    let before : (old.draft ≡ None) × GoesOnBehind found'.snapshot found'.journal old.files =
    (rotates.2, subst (λ (f : Found). GoesOnBehind f.snapshot f.journal old.files) (sym same) (inl (rotates.0 ∙ sym at, rotates.1 ∙ sym behind))) in
    subst (λ (r : RotationState _). (r.draft ≡ None) × GoesOnBehind found'.snapshot found'.journal r.files) (sym folds.0) before

-- behind topics that were added another one is taken, behind the first
pub grown_behind : (found told : Found) (former files : KeptFiles) → IsBehind found former → told.snapshot ≡ former.snapshot → IsBehind told files → IsBehind found files
grown_behind found told former files first of_the_row second =
    (second.0, (omega (arith, first.0, first.1.0, second.1.0, of_the_row), omega (arith, first.0, first.1.1, second.1.0, of_the_row)))

pub behind_in_order : (found : Found) (files : KeptFiles) → IsBehind found files → files.snapshot ≤ files.last
behind_in_order found files behind = let same = behind.0 in omega (arith, same)

pub grown_rotates : {F : Type 0} (found : Found) (r : RotationState F) → r.draft ≡ None → IsBehind found r.files → found.has_grown ≡ true → RotatesFrom found r
grown_rotates found r none behind grown = (none, subst (λ (b : Bool). MatchBool b (IsBehind found r.files) (GoesOnBehind found.snapshot found.journal r.files)) (sym grown) behind)
