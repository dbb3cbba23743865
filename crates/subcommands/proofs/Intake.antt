-- Batches that come in, read by read, and the table that goes out.
use Rattle.std.proofs.Common.{◌≡◌, ℕ, ◌+◌, ◌^◌, ◌<◌, ◌≤◌, false, true, List, [], ◌++◌, length, inl, inr, refl, sym, subst, arith, Result, Ok, Err}
use Rattle.std.specs.Prelude.{is_err, OnErr}
use Rattle.std.specs.Io.KnownBytes.{Appends}
use Rattle.std.proofs.KnownBytes.{Consumes-kept}
use Rattle.batch_codec.specs.declared.error.BatchError.TheVariants.{Short}
use Rattle.batch_codec.specs.Refusals.{FirstFault}
use Rattle.content.specs.Content.{Content, empty}
use Rattle.streams.specs.declared.failed.FillError.TheVariants as fill
use Rattle.streams.specs.State.{SourceState, SinkState, ReadsOnce, ReadsMore, ReadsEnd, StopsFilling, TakesFront}
use Rattle.subcommands.specs.declared.error.Refusal.TheVariants.{View}
use Rattle.subcommands.specs.declared.error.TableError.{TableError}
use Rattle.subcommands.specs.declared.error.TableError.TheVariants.{Batch, Read, Write, OutOfMemory}
use Rattle.subcommands.specs.Input.{TakesBatches, HasTaken, Takes, ReadsCopy, StopsBatch, StopsIntake, StopsPrinting}
use Rattle.subcommands.specs.Tables.{stream, content_lines, PrintsTable}
use Rattle.subcommands.specs.Refused.{FailsTable}
use Rattle.subcommands.proofs.Streams.{nothing_taken, batches_taken, piece_taken}
use Rattle.subcommands.proofs.Refusals.{next_refused, end_refused}

-- ---- how many reads are made

-- after the reads that were counted, and one more
pub few_reads : (first now next reads : ℕ) → now ≡ first + reads → reads < 2 ^ 32 → next ≤ now + 1 → next ≤ first + 2 ^ 32
few_reads first now next reads before few one = omega (arith, before, few, one)

-- after all of them
pub all_reads : (first now reads : ℕ) → now ≡ first + reads → reads ≡ 2 ^ 32 → now ≤ first + 2 ^ 32
all_reads first now reads before all = omega (arith, before, all)

-- ---- read by read

nothing_short : (waiting : List ℕ) → waiting ≡ [] → FirstFault Short waiting
nothing_short waiting none = subst (λ (t : List ℕ). FirstFault Short t) (sym none) (inl (omega arith))

pub none_taken : (source : SourceState) (c : Content) (count : ℕ) (waiting : List ℕ) → c ≡ empty → count ≡ 0 → waiting ≡ [] → Takes source source c count waiting 0
none_taken source c count waiting same zero none = record {
  taken = subst (λ (n : ℕ). HasTaken source.left source.left c n waiting) (sym zero) (nothing_taken source.left c waiting same none);
  is_short = nothing_short waiting none;
  counts = omega arith;
}

pub more_taken : (source mid source' : SourceState) (c c' : Content) (count count' : ℕ) (waiting held held' : List ℕ) (reads : ℕ)
    → Takes source mid c count waiting reads → ReadsMore mid source' waiting held → ReadsOnce mid source' → TakesBatches held held' c c' count count' → FirstFault Short held'
    → Takes source source' c' count' held' (reads + 1)
more_taken source mid source' c c' count count' waiting held held' reads read more once taken short = record {
  taken = batches_taken source.left source'.left held held' c c' count count' (piece_taken source.left mid source' waiting held c count read.taken more) taken;
  is_short = short;
  counts = omega (arith, once.0, read.counts);
}

-- ---- why the input isn't taken to its end

-- a read failed
pub read_stopped : (source mid source' : SourceState) (c : Content) (count : ℕ) (waiting : List ℕ) (reads : ℕ) → Takes source mid c count waiting reads → StopsFilling mid source' fill.Read → StopsIntake source source' Read
read_stopped source mid source' c count waiting reads read stops = (
  record {
    batches = read.taken.batches;
    rest = waiting;
    are_accepted = read.taken.are_accepted;
    consumes = Consumes-kept source.left mid.left source'.left (stream read.taken.batches ++ waiting) read.taken.consumes stops.0;
    is_short = read.is_short;
  },
  inl stops.1,
)

-- all reads were made
pub reads_out : (source source' : SourceState) (c : Content) (count : ℕ) (waiting : List ℕ) (reads : ℕ) → Takes source source' c count waiting reads → reads ≡ 2 ^ 32 → StopsIntake source source' Read
reads_out source source' c count waiting reads read all = (
  record {
    batches = read.taken.batches;
    rest = waiting;
    are_accepted = read.taken.are_accepted;
    consumes = read.taken.consumes;
    is_short = read.is_short;
  },
  inr (omega (arith, read.counts, all)),
)

-- a batch isn't taken
next_stopped : (source source' : SourceState) (c : Content) (count : ℕ) (waiting : List ℕ) (e : TableError) → HasTaken source.left source'.left c count waiting → source'.failed ≡ false → StopsBatch c count waiting e → StopsIntake source source' e
next_stopped source source' c count waiting (Batch index why) read fine stops = (next_refused source.left source'.left waiting c count read index why stops, fine)
next_stopped source source' c count waiting Read read fine stops = absurd stops
next_stopped source source' c count waiting Write read fine stops = absurd stops
next_stopped source source' c count waiting OutOfMemory read fine stops = fine

pub taking_stopped : (source mid source' : SourceState) (c c' : Content) (count count' : ℕ) (waiting held held' : List ℕ) (reads : ℕ) (e : TableError)
    → Takes source mid c count waiting reads → ReadsMore mid source' waiting held → ReadsOnce mid source' → TakesBatches held held' c c' count count' → StopsBatch c' count' held' e
    → StopsIntake source source' e
taking_stopped source mid source' c c' count count' waiting held held' reads e read more once taken stops =
    next_stopped source source' c' count' held' e
    (batches_taken source.left source'.left held held' c c' count count' (piece_taken source.left mid source' waiting held c count read.taken more) taken)
    once.1 stops

-- the input ends within a batch
pub end_stopped : (source mid source' : SourceState) (c : Content) (count : ℕ) (waiting held : List ℕ) (reads : ℕ) (e : TableError)
    → Takes source mid c count waiting reads → ReadsEnd mid source' waiting held → ReadsOnce mid source' → (e ≡ Batch count (View Short)) × (0 < length held)
    → StopsIntake source source' e
end_stopped source mid source' c count waiting held reads e read end once stops =
    subst (StopsIntake source source') (sym stops.0) (end_refused source.left mid source' waiting held c count read.taken read.is_short end stops.1, once.1)

-- ---- why no table is printed

pub when_err : {T E : Type 0} (r : Result T E) (P : Type 0) → is_err r ≡ true → OnErr r P → P
when_err (Ok x) P is h = let bad : false ≡ true = is in cc
when_err (Err e) P is h = h

pub intake_fails : (source source' : SourceState) (sink : SinkState) (e : TableError) → StopsIntake source source' e → FailsTable source source' sink sink e
intake_fails source source' sink (Batch index why) stops = (stops.0, stops.1, refl)
intake_fails source source' sink Read stops = (stops.0, stops.1, refl)
intake_fails source source' sink Write stops = absurd stops
intake_fails source source' sink OutOfMemory stops = (stops, refl)

pub printing_fails : (source source' : SourceState) (sink sink' : SinkState) (c : Content) (e : TableError) → ReadsCopy source.left source'.left c → source'.failed ≡ false → StopsPrinting c sink sink' e → FailsTable source source' sink sink' e
printing_fails source source' sink sink' c (Batch index why) read fine stops = absurd stops
printing_fails source source' sink sink' c Read read fine stops = absurd stops
printing_fails source source' sink sink' c Write read fine stops =
    ((read.batches, read.reads, subst (λ (k : Content). TakesFront sink.taken sink'.taken (content_lines k)) read.delivers stops.1), fine, stops.0)
printing_fails source source' sink sink' c OutOfMemory read fine stops = (fine, stops)

pub table_printed : (source source' : SourceState) (sink sink' : SinkState) (c : Content) → ReadsCopy source.left source'.left c → Appends sink.taken sink'.taken (content_lines c) → PrintsTable source.left source'.left sink.taken sink'.taken
table_printed source source' sink sink' c read appends = record {
  batches = read.batches;
  reads = read.reads;
  appends = subst (λ (k : Content). Appends sink.taken sink'.taken (content_lines k)) read.delivers appends;
}
