-- Images that come in, read by read, and the one that goes out.
use Rattle.std.proofs.Common.{◌≡◌, ℕ, ◌+◌, ◌^◌, true, false, List, [], inl, inr, refl, sym, subst, arith}
use Rattle.std.specs.Io.KnownBytes.{Appends, Consumes, Keeps}
use Rattle.std.proofs.KnownBytes.{Consumes-nil, Consumes-trans, Consumes-kept, Appends-kept}
use Rattle.std.proofs.lemmas.List.{append-nil}
use Rattle.subcommands.specs.Merging.{MergesImages}
use Rattle.streams.specs.declared.failed.FillError.TheVariants as fill
use Rattle.streams.specs.State.{SourceState, SinkState, ReadsOnce, ReadsMore, ReadsEnd, StopsFilling, LosesRest, TakesAllBut}
use Rattle.subcommands.specs.declared.error.ImagesError.{ImagesError}
use Rattle.subcommands.specs.declared.error.ImagesError.TheVariants.{Images, Read, Write, OutOfMemory}
use Rattle.subcommands.specs.Input.{Holds, StopsImages, CutsImage}
use Rattle.subcommands.specs.Tables.{ReadsAll}
use Rattle.subcommands.specs.Merges.{FailsMerge}
use Rattle.subcommands.proofs.Streams.{reads_all}

-- ---- read by read

pub nothing_held : (source : SourceState) (waiting : List ℕ) → waiting ≡ [] → Holds source source waiting 0
nothing_held source waiting none = record {
  consumes = subst (Consumes source.left source.left) (sym none) (Consumes-nil source.left);
  counts = omega arith;
}

pub more_held : (source mid source' : SourceState) (waiting held : List ℕ) (reads : ℕ) → Holds source mid waiting reads → ReadsMore mid source' waiting held → ReadsOnce mid source' → Holds source source' held (reads + 1)
more_held source mid source' waiting held reads read more once = record {
  consumes = subst (Consumes source.left source'.left) (sym more.0.1.appends) (Consumes-trans source.left mid.left source'.left waiting more.0.1.piece read.consumes more.0.1.consumes);
  counts = omega (arith, once.0, read.counts);
}

pub all_held : (source mid source' : SourceState) (waiting held : List ℕ) (reads : ℕ) → Holds source mid waiting reads → ReadsEnd mid source' waiting held → ReadsAll source.left source'.left held
all_held source mid source' waiting held reads read end =
    subst (ReadsAll source.left source'.left) (sym end.2) (reads_all source.left mid.left source'.left waiting read.consumes end.0 end.1)

-- a read failed
pub read_stopped : (source mid source' : SourceState) (waiting : List ℕ) (reads : ℕ) → Holds source mid waiting reads → StopsFilling mid source' fill.Read → StopsImages source source' Read
read_stopped source mid source' waiting reads read stops =
    ((waiting, Consumes-kept source.left mid.left source'.left waiting read.consumes stops.0), inl stops.1)

-- all reads were made
pub reads_out : (source source' : SourceState) (waiting : List ℕ) (reads : ℕ) → Holds source source' waiting reads → reads ≡ 2 ^ 32 → StopsImages source source' Read
reads_out source source' waiting reads read all = ((waiting, read.consumes), inr (omega (arith, read.counts, all)))

-- ---- the image

pub image_lost : (image : List ℕ) (sink sink' : SinkState) → sink'.failed ≡ true → LosesRest sink.taken sink'.taken image → CutsImage image sink sink' Write
image_lost image sink sink' failed lost = (failed, (lost.0, lost.2))

pub image_unflushed : (image : List ℕ) (sink mid sink' : SinkState) → sink'.failed ≡ true → Appends sink.taken mid.taken image → Keeps mid.taken sink'.taken → CutsImage image sink sink' Write
image_unflushed image sink mid sink' failed appends keeps =
    let all : TakesAllBut sink.taken sink'.taken [] image = record {
      front = image;
      parts = sym (append-nil image);
      appends = Appends-kept sink.taken mid.taken sink'.taken image appends keeps;
    } in
    (failed, ([], all))

-- ---- why no image is printed

pub reading_fails : (source source' : SourceState) (sink : SinkState) (e : ImagesError) → StopsImages source source' e → FailsMerge source source' sink sink e
reading_fails source source' sink (Images why) stops = absurd stops
reading_fails source source' sink Read stops = (stops.0, stops.1, refl)
reading_fails source source' sink Write stops = absurd stops
reading_fails source source' sink OutOfMemory stops = (stops, refl)

pub printing_fails : (source source' : SourceState) (sink sink' : SinkState) (input image : List ℕ) (e : ImagesError)
    → ReadsAll source.left source'.left input → source'.failed ≡ false → MergesImages input image → CutsImage image sink sink' e → FailsMerge source source' sink sink' e
printing_fails source source' sink sink' input image (Images why) read fine merges cuts = absurd cuts
printing_fails source source' sink sink' input image Read read fine merges cuts = absurd cuts
printing_fails source source' sink sink' input image Write read fine merges cuts = ((input, image, read, merges, cuts.1), fine, cuts.0)
printing_fails source source' sink sink' input image OutOfMemory read fine merges cuts = absurd cuts
