-- Lemmas on the answer that a stream is refused.
use Rattle.std.proofs.Common.{◌≢◌, ℕ, ◌<◌, List, [], ◌++◌, length, Option, refl, sym, ap, subst, ◌∙◌, arith}
use Rattle.std.specs.Io.KnownBytes.{Consumes}
use Rattle.std.proofs.lemmas.List.{append-nil}
use Rattle.streams.specs.State.{SourceState, ReadsEnd}
use Rattle.std.proofs.KnownBytes.{Consumes-trans}
use Rattle.batch_codec.specs.declared.error.BatchError.{BatchError}
use Rattle.batch_codec.specs.declared.error.BatchError.TheVariants.{Short}
use Rattle.batch_codec.specs.Values.{BatchValue}
use Rattle.batch_codec.specs.Grammar.{batch_encoding}
use Rattle.batch_codec.specs.Refusals.{FirstFault}
use Rattle.content.specs.Content.{Content}
use Rattle.subcommands.specs.declared.error.Refusal.{Refusal}
use Rattle.subcommands.specs.declared.error.Refusal.TheVariants.{View, Deliver}
use Rattle.subcommands.specs.Input.{HasTaken}
use Rattle.subcommands.specs.Tables.{stream}
use Rattle.subcommands.specs.Refused.{IsRefusedAs, RefusesNext, RefusesStream}
use Rattle.subcommands.proofs.Streams.{reads_all}

-- ---- bytes that are refused are some

fault_some : (e : BatchError) (bytes : List ℕ) → FirstFault e bytes → e ≢ Short → 0 < length bytes
fault_some Short bytes fault other = absurd (other refl)
fault_some _ bytes fault other = omega arith

encoded_some : (b : BatchValue) (rest : List ℕ) → 0 < length (batch_encoding b ++ rest)
unfolding batch_encoding
encoded_some b rest = omega arith

refused_some : (c : Content) (next : List ℕ) (why : Refusal) → IsRefusedAs c next why → why ≢ View Short → 0 < length next
refused_some c next (View fault) refused settled = fault_some fault next refused (λ short. settled (ap View short))
refused_some c next (Deliver why) refused settled = subst (λ (t : List ℕ). 0 < length t) (sym refused.3) (encoded_some refused.0 refused.1)

-- ---- a stream

-- behind the batches that were taken waits one that is refused
pub next_refused : (a b : Option (List ℕ)) (waiting : List ℕ) (c : Content) (count : ℕ) → HasTaken a b c count waiting → (index : ℕ) (why : Refusal) → RefusesNext c count waiting index why → RefusesStream a b index why
next_refused a b waiting c count read index why r = record {
  batches = read.batches;
  next = waiting;
  are_accepted = read.are_accepted;
  index_is = r.index_is ∙ read.counts;
  is_some = refused_some c waiting why r.is_refused r.not_short;
  consumes = read.consumes;
  is_refused = subst (λ (k : Content). IsRefusedAs k waiting why) read.delivers r.is_refused;
  short_at_end = λ short. absurd (r.not_short short);
}

-- the reader's end comes within a batch
pub end_refused : (a : Option (List ℕ)) (source source' : SourceState) (waiting waiting' : List ℕ) (c : Content) (count : ℕ) → HasTaken a source.left c count waiting → FirstFault Short waiting → ReadsEnd source source' waiting waiting' → 0 < length waiting' → RefusesStream a source'.left count (View Short)
end_refused a source source' waiting waiting' c count read short end more =
    let all = reads_all a source.left source'.left (stream read.batches ++ waiting) read.consumes end.0 end.1 in
    record {
      batches = read.batches;
      next = waiting;
      are_accepted = read.are_accepted;
      index_is = read.counts;
      is_some = subst (λ (t : List ℕ). 0 < length t) end.2 more;
      consumes = subst (Consumes a source'.left) (append-nil (stream read.batches ++ waiting)) (Consumes-trans a source.left source'.left (stream read.batches ++ waiting) [] read.consumes end.0);
      is_refused = short;
      short_at_end = λ _. all;
    }
