-- The files of a directory that are taken, and what they lead to.
use Rattle.std.proofs.Common.{◌≡◌, ℕ, ℤ, zero, suc, ◌+◌, ◌-◌, ◌<◌, ◌≤◌, arith, List, [], length, drop, Bool, true, false, not, Option, Some, None, sym, refl, ap, subst, ◌∙◌, inl, inr, true≢false}
use Rattle.std.specs.Prelude.{◌⊎◌, IfOk, IfSome, MatchBool, MatchOption, OnErr, Result, Ok, Err}
use Rattle.std.specs.Option.{is_some}
use Rattle.std.specs.Int.{cast_unsigned, w64}
use Rattle.broker_state.specs.State.{ConfigValue, State}
use Rattle.data_directory.specs.declared.names.Name.{Name}
use Rattle.data_directory.specs.declared.names.Name.TheVariants.{Snapshot, Journal}
use Rattle.data_directory.specs.Directories.{DirectoryState, HasItsBytes, IsThere}
use Rattle.journal.specs.declared.head.Head.{Head}
use Rattle.journal.specs.declared.layout.TheConstants.{HEAD_SIZE}
use Rattle.journal.specs.Files.{HasNoGroup, head_size}
use Rattle.journal.specs.Heads.{StartsWithJournalHead}
use Rattle.kept_rotations.specs.declared.opening.TheConstants.{MEANING}
use Rattle.journal.specs.Readers.{ReaderState}
use Rattle.kept_rotations.specs.Below.{HasRecovered}
use Rattle.kept_starts.specs.declared.places.Stood.{Stood}
use Rattle.kept_starts.specs.declared.places.Stood.TheVariants.{OfSnapshot}
use Rattle.kept_starts.specs.declared.recovering.RowRead.{RowRead}
use Rattle.kept_starts.specs.declared.snapshot.Shape.{Shape}
use Rattle.kept_starts.specs.declared.snapshot.Shape.TheVariants.{Former, Asked}
use Rattle.kept_starts.specs.declared.standing.Row.{Row}
use Rattle.kept_starts.specs.declared.starting.Found.{Found}
use Rattle.kept_starts.specs.Growth.{HasTopicsOf, HoldsStill, IsSetUp}
use Rattle.kept_starts.specs.Places.{IsPlaced, stood_behind}
use Rattle.kept_starts.specs.Rows.{HasNone, IsShortened, IsTakenRow, IsTopRow, WasBeingMade}
use Rattle.kept_starts.specs.Starts.{AreTaken, FilesLead, FormerLead, HoldsImages, IsAsHeld, IsEmptyIf, IsGrown, IsJournalOf, IsReadUp, IsRecovered, JournalLeads, LeadAsAsked, LeadsTo, RowLeads, SnapshotHolds, StandsWhole, TakesFiles, TellsFiles, WholeLeads, set_up_of}
use Rattle.kept_starts.proofs.GoingOn.{leads_on}

module _ {F : Type 0} (d : DirectoryState) (gives : Name → F → Type 0) (seen : F → Option (List ℕ)) where
  -- ---- one file

  pub snapshot_holds : (number : ℕ) (key : Option ℤ) (file : F) (s : State) (asked : ConfigValue) (shape : Shape) (is_grown : Bool) → IsThere d (Snapshot number) true → gives (Snapshot number) file
      → HasItsBytes d (Snapshot number) (seen file)
      → (config : ConfigValue) × (h : HoldsImages (seen file) config s) × (cast_unsigned w64 h.head.number ≡ number) × (h.key ≡ key) × IsSetUp asked shape is_grown h.head config
      → (held : SnapshotHolds d gives seen number key s) × IsSetUp asked shape is_grown held.holds.head held.config
  snapshot_holds number key file s asked shape is_grown there given bytes holds = (
    record {
      file = file;
      is_its = record { there = there; given = given };
      its_bytes = bytes;
      config = holds.0;
      holds = holds.1;
      says = holds.2;
      keyed = holds.3;
    },
    holds.4,
  )

  meant : (head : Head) (size : ℕ) (bytes : Option (List ℕ)) → IfSome bytes (λ known. length known ≡ size) → (head.meaning ≡ MEANING) ⊎ (size ≤ head_size head)
      → IfSome bytes (λ known. (head.meaning ≡ MEANING) ⊎ (length known ≤ head_size head))
  meant head size None sized means = tt
  meant head size (Some known) sized (inl same) = inl same
  meant head size (Some known) sized (inr short) = inr (omega (arith, sized, short))

  pub is_journal : (number size : ℕ) (file disk : F) (head : Head) → IsThere d (Journal number) true → gives (Journal number) file
      → IfSome (seen file) (λ bytes. StartsWithJournalHead head bytes) → disk ≡ file → cast_unsigned w64 head.number ≡ number
      → IfSome (seen disk) (λ bytes. length bytes ≡ size) → (head.meaning ≡ MEANING) ⊎ (size ≤ head_size head) → IsJournalOf d gives seen number disk head
  is_journal number size file disk head there given begins same says sized means = record {
    is_its = record { there = there; given = subst (gives (Journal number)) (sym same) given };
    begins = subst (λ (f : F). IfSome (seen f) (λ bytes. StartsWithJournalHead head bytes)) (sym same) begins;
    says = says;
    means = meant head size (seen disk) sized means;
  }

  pub was_made : (number size : ℕ) (file : F) → IsThere d (Journal number) true → gives (Journal number) file
      → IfSome (seen file) (λ bytes. size ≡ length bytes) → size ≤ HEAD_SIZE → WasBeingMade d gives seen number
  was_made number size file there given sized short = record {
    file = file;
    is_its = record { there = there; given = given };
    short = is_short (seen file) sized;
  }
    where
      is_short : (bytes : Option (List ℕ)) → IfSome bytes (λ known. size ≡ length known) → IfSome bytes (λ known. length known ≤ HEAD_SIZE)
      is_short None is = tt
      is_short (Some known) is = omega (arith, is, short)

  whole_leads : (number : ℕ) (disk disk' : F) (head head' : Head) (at size count : ℕ) (s after : State) → IsJournalOf d gives seen number disk head
      → disk' ≡ disk → head' ≡ head → HasRecovered (seen disk') head'.key (head_size head') at s after count
      → IfSome (seen disk') (λ file. HasNoGroup head'.key at (drop at file)) → IfSome (seen disk') (λ file. length file ≡ size) → at ≡ size
      → WholeLeads d gives seen number s after
  whole_leads number disk disk' head head' at size count s after is same_disk same_head recovered ended sized end = record {
    journal = record {
      file = disk';
      head = head';
      is_journal = subst (λ (f : F). IsJournalOf d gives seen number f head') (sym same_disk) (subst (λ (h : Head). IsJournalOf d gives seen number disk h) (sym same_head) is);
      groups = record { end = at; count = count; recovered = recovered; ended = ended };
    };
    whole = subst (λ (n : ℕ). IfSome (seen disk') (λ file. length file ≡ n)) (sym end) sized;
  }

  pub stands_whole : (number : ℕ) (disk disk' : F) (head head' read : Head) (at size count : ℕ) (stood behind : Stood) (s after : State) → IsJournalOf d gives seen number disk head
      → disk' ≡ disk → head' ≡ head → HasRecovered (seen disk') head'.key (head_size head') at s after count
      → IfSome (seen disk') (λ file. HasNoGroup head'.key at (drop at file)) → IfSome (seen disk') (λ file. length file ≡ size) → at ≡ size
      → read ≡ head → IsPlaced stood read → behind ≡ stood_behind read at → StandsWhole d gives seen number stood s behind after
  unfolding whole_leads
  stands_whole number disk disk' head head' read at size count stood behind s after is same_disk same_head recovered ended sized end first placed next =
      let same : read ≡ head' = first ∙ sym same_head in
      record {
        whole = whole_leads number disk disk' head head' at size count s after is same_disk same_head recovered ended sized end;
        placed = subst (IsPlaced stood) same placed;
        next = next ∙ ap (λ (h : Head). stood_behind h at) same;
      }

  -- the last one, of which a crash may have left more
  newest_leads : (number : ℕ) (reader : ReaderState F) (s after : State) → IsJournalOf d gives seen number reader.disk reader.head → IsReadUp seen s reader after → JournalLeads d gives seen number s after
  newest_leads number reader s after is up = record {
    file = reader.disk;
    head = reader.head;
    is_journal = is;
    groups = record { end = reader.at; count = up.count; recovered = up.recovered; ended = up.ended };
  }

  -- ---- a row of journals

  pub row_begins : (first : ℕ) (stood : Stood) (s : State) → RowLeads d gives seen first (first - first) stood s stood s
  row_begins first stood s =
      let none : first - first ≡ 0 = omega arith in subst (λ (n : ℕ). RowLeads d gives seen first n stood s stood s) (sym none) (refl, refl)

  pub row_goes_on : (first number : ℕ) (stood between behind : Stood) (s mid after : State) → first ≤ number
      → RowLeads d gives seen first (number - first) stood s between mid → StandsWhole d gives seen number between mid behind after
      → RowLeads d gives seen first ((number + 1) - first) stood s behind after
  row_goes_on first number stood between behind s mid after in_order led one =
      let more : (number + 1) - first ≡ suc (number - first) = omega (arith, in_order) in
      let here : number ≡ first + (number - first) = omega (arith, in_order) in
      subst (λ (n : ℕ). RowLeads d gives seen first n stood s behind after) (sym more)
      (mid, between, led, subst (λ (n : ℕ). StandsWhole d gives seen n between mid behind after) here one)

  pub row_ends : (first last number : ℕ) (stood behind : Stood) (s after : State) → first ≤ number → (number ≤ last) ⊎ (number ≡ first) → last ≤ number
      → RowLeads d gives seen first (number - first) stood s behind after → RowLeads d gives seen first (last - first) stood s behind after
  row_ends first last number stood behind s after in_order bound end led =
      subst (λ (n : ℕ). RowLeads d gives seen first n stood s behind after) (same bound) led
    where
      same : (number ≤ last) ⊎ (number ≡ first) → number - first ≡ last - first
      same (inl within) = omega (arith, within, end)
      same (inr none) = omega (arith, none, end)

  row_led : (first count : ℕ) (stood behind : Stood) (s after : State) → RowLeads d gives seen first count stood s behind after → LeadsTo s after
  row_led first zero stood behind s after led = record { frames = []; replays = led.0 }
  row_led first (suc count) stood behind s after led =
      leads_on s led.0 after (row_led first count stood led.1 s led.0 led.2)
      (record { frames = led.3.whole.journal.groups.recovered.frames; replays = led.3.whole.journal.groups.recovered.replays })

  -- ---- the row that is taken

  pub as_found : (snapshot last : ℕ) → IsTopRow d snapshot last → IsTakenRow d gives seen snapshot last
  as_found snapshot last top = record {
    in_order = top.in_order;
    no_higher = top.no_higher;
    next = inl (top.no_later (last + 1) (omega arith));
    no_later = λ number above. top.no_later number (omega (arith, above));
  }

  pub without_last : (snapshot last : ℕ) → snapshot < last → WasBeingMade d gives seen last → IsTopRow d snapshot last → IsTakenRow d gives seen snapshot (last - 1)
  without_last snapshot last below made top =
      let last_is : last ≡ (last - 1) + 1 = omega (arith, below) in
      record {
        in_order = omega (arith, below);
        no_higher = top.no_higher;
        next = inr (subst (WasBeingMade d gives seen) last_is made);
        no_later = λ number above. top.no_later number (omega (arith, above));
      }

  -- ---- all files

  pub former_leads : (snapshot last : ℕ) (key : Option ℤ) (stood : Stood) (held s : State) (asked : ConfigValue) (shape : Shape) (is_grown : Bool)
      → (h : SnapshotHolds d gives seen snapshot key held) × IsSetUp asked shape is_grown h.holds.head h.config
      → RowLeads d gives seen snapshot (last - snapshot) (OfSnapshot key) held stood s
      → (led : FormerLead d gives seen snapshot last stood s) × IsSetUp asked shape is_grown led.of_snapshot.holds.head led.of_snapshot.config
  former_leads snapshot last key stood held s asked shape is_grown of_snapshot led = (record { held = held; key = key; of_snapshot = of_snapshot.0; led = led }, of_snapshot.1)

  recovered : (snapshot last : ℕ) (stood : Stood) (s : State) → FormerLead d gives seen snapshot last stood s → IsRecovered seen s
  recovered snapshot last stood s former = record {
    config = former.of_snapshot.config;
    held = former.held;
    of_snapshot = record { file = former.of_snapshot.file; holds = former.of_snapshot.holds };
    led = row_led snapshot (last - snapshot) (OfSnapshot former.key) stood former.held s former.led;
  }

  pub ready : (snapshot last : ℕ) (stood : Stood) (s node : State) (reader : ReaderState F) → FormerLead d gives seen snapshot last stood s → IsReadUp seen s reader node
      → (former : State) × IsRecovered seen former × IsReadUp seen former reader node
  ready snapshot last stood s node reader former up = (s, recovered snapshot last stood s former, up)

  pub files_lead : (snapshot last snapshot' last' : ℕ) (stood : Stood) (between node after : State) (reader : ReaderState F) → FormerLead d gives seen snapshot last stood between
      → IsJournalOf d gives seen last reader.disk reader.head → IsPlaced stood reader.head → IsReadUp seen between reader node
      → snapshot' ≡ snapshot → last' ≡ last → after ≡ node → FilesLead d gives seen snapshot' last' after
  unfolding newest_leads
  files_lead snapshot last snapshot' last' stood between node after reader former is placed up same_snapshot same_last same =
      subst (λ (s : State). FilesLead d gives seen snapshot' last' s) (sym same)
      (subst (λ (n : ℕ). FilesLead d gives seen n last' node) (sym same_snapshot)
      (subst (λ (n : ℕ). FilesLead d gives seen snapshot n node) (sym same_last)
      (record { between = between; stood = stood; former = former; newest = newest_leads last reader between node is up; placed = placed })))

  -- where the last journal is to have no frame, and is the snapshot's, they lead to what that says
  as_held : (shape : Shape) (snapshot last count : ℕ) (stood behind : Stood) (held between node : State) → IsEmptyIf shape count → (count ≡ 0 → node ≡ between)
      → RowLeads d gives seen snapshot (last - snapshot) stood held behind between → IsAsHeld shape snapshot last held node
  as_held Former snapshot last count stood behind held between node none counts led = tt
  as_held Asked snapshot last count stood behind held between node none counts led = λ same.
      let no_former : last - snapshot ≡ 0 = omega (arith, same) in
      counts none ∙ sym (subst (λ (n : ℕ). RowLeads d gives seen snapshot n stood held behind between) no_former led).0

  pub led_as_asked : (read read' : RowRead) (asked : ConfigValue) (shape : Shape) (stood : Stood) (between node : State) (reader : ReaderState F) (count : ℕ)
      → (led : FormerLead d gives seen read.row.snapshot read.row.last stood between) × IsSetUp asked shape read.is_grown led.of_snapshot.holds.head led.of_snapshot.config
      → IsJournalOf d gives seen read.row.last reader.disk reader.head → IsPlaced stood reader.head → IsReadUp seen between reader node → read' ≡ read
      → IsEmptyIf shape count → (count ≡ 0 → node ≡ between)
      → LeadAsAsked d gives seen asked shape read'.is_grown read'.row.snapshot read'.row.last node
  unfolding newest_leads
  led_as_asked read read' asked shape stood between node reader count former is placed up same none counts =
      subst (λ (r : RowRead). LeadAsAsked d gives seen asked shape r.is_grown r.row.snapshot r.row.last node) (sym same) (record {
        lead = record { between = between; stood = stood; former = former.0; newest = newest_leads read.row.last reader between node is up; placed = placed };
        set_up = former.1;
        unchanged = as_held shape read.row.snapshot read.row.last count (OfSnapshot former.0.key) stood former.0.held between node none counts former.0.led;
      })

  -- what is told of them
  pub lead_is : (snapshot last snapshot' last' : ℕ) (asked : ConfigValue) (shape : Shape) (is_grown is_grown' : Bool) (s s' : State) → snapshot' ≡ snapshot → last' ≡ last → is_grown' ≡ is_grown → s' ≡ s
      → LeadAsAsked d gives seen asked shape is_grown snapshot last s → LeadAsAsked d gives seen asked shape is_grown' snapshot' last' s'
  lead_is snapshot last snapshot' last' asked shape is_grown is_grown' s s' same_snapshot same_last same_growth same lead =
      subst (λ (x : State). LeadAsAsked d gives seen asked shape is_grown' snapshot' last' x) (sym same)
      (subst (λ (b : Bool). LeadAsAsked d gives seen asked shape b snapshot' last' s) (sym same_growth)
      (subst (λ (n : ℕ). LeadAsAsked d gives seen asked shape is_grown n last' s) (sym same_snapshot)
      (subst (λ (n : ℕ). LeadAsAsked d gives seen asked shape is_grown snapshot n s) (sym same_last) lead)))

  -- those of a row that was read
  pub row_read : (found : Row) (read read' : RowRead) → (IsTopRow d found.snapshot found.last → IsTakenRow d gives seen read.row.snapshot read.row.last) → read' ≡ read
      → IsTopRow d found.snapshot found.last → IsTakenRow d gives seen read'.row.snapshot read'.row.last
  row_read found read read' row same top = subst (λ (r : RowRead). IsTakenRow d gives seen r.row.snapshot r.row.last) (sym same) (row top)

  pub row_is : (snapshot last snapshot' last' : ℕ) → snapshot' ≡ snapshot → last' ≡ last → IsTakenRow d gives seen snapshot last → IsTakenRow d gives seen snapshot' last'
  row_is snapshot last snapshot' last' same_snapshot same_last row =
      subst (λ (n : ℕ). IsTakenRow d gives seen n last') (sym same_snapshot) (subst (λ (n : ℕ). IsTakenRow d gives seen snapshot n) (sym same_last) row)

-- ---- the row in order

pub still_in_order : (found row : Row) → IsShortened found row → found.snapshot ≤ found.last → row.snapshot ≤ row.last
still_in_order found row is in_order = by is.1
  where
    by : (row.last ≡ found.last) ⊎ ((found.snapshot < found.last) × (row.last ≡ found.last - 1)) → row.snapshot ≤ row.last
    by (inl same) = omega (arith, is.0, same, in_order)
    by (inr shorter) = omega (arith, is.0, shorter.0, shorter.1)

pub told_row : (found row : Row) (snapshot last : ℕ) → IsShortened found row → snapshot ≡ row.snapshot → last ≡ row.last → IsShortened found (record { snapshot = snapshot; last = last })
told_row found row snapshot last is same_snapshot same_last = (same_snapshot ∙ is.0, by is.1)
  where
    by : (row.last ≡ found.last) ⊎ ((found.snapshot < found.last) × (row.last ≡ found.last - 1)) → (last ≡ found.last) ⊎ ((found.snapshot < found.last) × (last ≡ found.last - 1))
    by (inl same) = inl (same_last ∙ same)
    by (inr shorter) = inr (shorter.0, same_last ∙ shorter.1)

-- ---- what is told

-- what stood was taken, where a snapshot stood
pub stands_or_new : {X F : Type 0} (state : X → DirectoryState) (gives : X → Name → F → Type 0) (seen : F → Option (List ℕ)) (old new : X)
    (standing : Option Row) (row : Row) (is_new : Bool) (asked : ConfigValue) (shape : Shape) (is_grown : Bool) (snapshot last : ℕ) (s : State)
    → MatchOption standing (HasNone (state old) (gives old) seen) (λ found. IsTopRow (state old) found.snapshot found.last)
    → IfSome standing (λ found. (row ≡ found) × (new ≡ old)) → is_some standing ≡ not is_new → LeadAsAsked (state new) (gives new) seen asked shape is_grown snapshot last s
    → (IsTopRow (state new) row.snapshot row.last → IsTakenRow (state new) (gives new) seen snapshot last)
    → MatchBool is_new (HasNone (state old) (gives old) seen)
    ((taken : AreTaken (state old) (gives old) seen snapshot last s) × IsSetUp asked shape is_grown taken.lead.former.of_snapshot.holds.head (set_up_of taken))
stands_or_new state gives seen old new None row true asked shape is_grown snapshot last s top same tells lead taken = top
stands_or_new state gives seen old new None row false asked shape is_grown snapshot last s top same tells lead taken = absurd (true≢false (sym tells))
stands_or_new state gives seen old new (Some found) row true asked shape is_grown snapshot last s top same tells lead taken = absurd (true≢false tells)
stands_or_new state gives seen old new (Some found) row false asked shape is_grown snapshot last s top same tells lead taken =
    subst (λ (x : _). (t : AreTaken (state x) (gives x) seen snapshot last s) × IsSetUp asked shape is_grown t.lead.former.of_snapshot.holds.head (set_up_of t)) same.1 (
      record {
        row = taken (subst (λ (x : _). IsTopRow (state x) row.snapshot row.last) (sym same.1)
            (subst (λ (r : Row). IsTopRow (state old) r.snapshot r.last) (sym same.0) top));
        lead = lead.lead;
      },
      lead.set_up,
    )

-- two clauses of one result
pub both_ok : {T E : Type 0} (r : Result T E) (P Q R : T → Type 0) → ((x : T) → P x → Q x → R x) → IfOk r P → IfOk r Q → IfOk r R
both_ok (Ok x) P Q R step p q = step x p q
both_ok (Err e) P Q R step p q = tt

pub on_err : {T E : Type 0} (r : Result T E) (P Q : Type 0) → (P → Q) → OnErr r P → OnErr r Q
on_err (Ok x) P Q step p = tt
on_err (Err e) P Q step p = step p

pub on_err_of : {T E P : Type 0} (r : Result T E) → P → OnErr r P
on_err_of (Ok x) p = tt
on_err_of (Err e) p = p

module _ {F : Type 0} (knows : Type 0) (d : DirectoryState) (gives : Name → F → Type 0) (seen : F → Option (List ℕ)) (asked : ConfigValue) where
  -- where none are added, the broker holds what the files lead to
  pub tells_files : (is_new has_grown : Bool) (snapshot last : ℕ) (led : State)
      → MatchBool is_new (HasNone d gives seen)
      ((taken : AreTaken d gives seen snapshot last led) × IsSetUp asked Former has_grown taken.lead.former.of_snapshot.holds.head (set_up_of taken))
      → has_grown ≡ false
      → MatchBool is_new (HasNone d gives seen × (has_grown ≡ false))
      ((x : State) × (taken : AreTaken d gives seen snapshot last x)
      × MatchBool has_grown (IsGrown knows asked (set_up_of taken) x led) ((led ≡ x) × HasTopicsOf asked (set_up_of taken)))
  tells_files true has_grown snapshot last led none alike = (none, alike)
  tells_files false has_grown snapshot last led stood alike = (
    led,
    stood.0,
    subst (λ (b : Bool). MatchBool b (IsGrown knows asked (set_up_of stood.0) led led) ((led ≡ led) × HasTopicsOf asked (set_up_of stood.0))) (sym alike) (refl, stood.1.as_asked alike),
  )

  -- whoever adds topics says so
  pub tells_growth : (found told : Found) (led now : State) → found.has_grown ≡ true
      → MatchBool found.is_new (HasNone d gives seen)
      ((taken : AreTaken d gives seen found.snapshot found.journal led) × IsSetUp asked Former found.has_grown taken.lead.former.of_snapshot.holds.head (set_up_of taken))
      → (found.is_new ≡ true → found.has_grown ≡ false) → HoldsStill knows led now → told ≡ found → TakesFiles knows d gives seen asked told now
  tells_growth found told led now grown stood whole holds same = subst (λ (f : Found). TakesFiles knows d gives seen asked f now) (sym same) (by found.is_new stood whole)
    where
      by : (is_new : Bool)
          → MatchBool is_new (HasNone d gives seen)
          ((taken : AreTaken d gives seen found.snapshot found.journal led) × IsSetUp asked Former found.has_grown taken.lead.former.of_snapshot.holds.head (set_up_of taken))
          → (is_new ≡ true → found.has_grown ≡ false)
          → MatchBool is_new (HasNone d gives seen × (found.has_grown ≡ false))
          ((x : State) × (taken : AreTaken d gives seen found.snapshot found.journal x)
          × MatchBool found.has_grown (IsGrown knows asked (set_up_of taken) x now) ((now ≡ x) × HasTopicsOf asked (set_up_of taken)))
      by true none whole = absurd (true≢false (sym grown ∙ whole refl))
      by false taken whole = (
        led,
        taken.0,
        subst (λ (b : Bool). MatchBool b (IsGrown knows asked (set_up_of taken.0) led now) ((now ≡ led) × HasTopicsOf asked (set_up_of taken.0))) (sym grown)
            (record { asks = taken.1.as_before grown; holds = holds }),
      )

-- what is told of files that aren't started
pub told_files : {F : Type 0} (d : DirectoryState) (gives : Name → F → Type 0) (seen : F → Option (List ℕ)) (found : Found) (led : State) → found.is_new ≡ false
    → IsTakenRow d gives seen found.snapshot found.journal → FilesLead d gives seen found.snapshot found.journal led → TellsFiles d gives seen found
told_files d gives seen found led old row lead =
    subst (λ (b : Bool). MatchBool b (HasNone d gives seen) ((s : State) × AreTaken d gives seen found.snapshot found.journal s)) (sym old) (led, record { row = row; lead = lead })

pub told_none : {F : Type 0} (d : DirectoryState) (gives : Name → F → Type 0) (seen : F → Option (List ℕ)) (found : Found) → found.is_new ≡ true → HasNone d gives seen → TellsFiles d gives seen found
told_none d gives seen found new none =
    subst (λ (b : Bool). MatchBool b (HasNone d gives seen) ((s : State) × AreTaken d gives seen found.snapshot found.journal s)) (sym new) none
