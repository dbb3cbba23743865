use Rattle.std.proofs.Common.{pos, [], ◌∷◌, ◌++◌, sym, subst}
use Rattle.std.proofs.lemmas.List.{map-append}
use Rattle.batch_codec.specs.Values.{BatchValue}
use Rattle.content.specs.Windows.{heads}
use Rattle.content.specs.LegalLogs.{IsLegalAfter}
use Rattle.content_laws.proofs.Windows.{Heads}
use Rattle.content_laws.proofs.Legal.{legal-push}
use Rattle.content_laws.proofs.legal_logs.a_new_batch_keeps_a_log_legal.Goals as goal

pub returns : goal.returns
returns c = λ log start b least legal new.
    (legal.0 ++ start ∷ [], subst (λ (hs : Heads). IsLegalAfter [] (pos 0) hs (legal.0 ++ start ∷ []) start) (sym (map-append (λ (x : BatchValue). x.head) log (b ∷ []))) (legal-push start (pos 0) [] (heads log) legal.0 b.head least legal.1 new))
