-- Two followers that are alike answer a request within the logs and stay of the same logs: a follower appends nothing, and gives
-- out no id.
use Rattle.std.proofs.Common.{◌≡◌, ℤ, true, false, sym, ap, subst, ◌∙◌, arith}
use Rattle.request_frames.specs.Requests.{BodyValue, RequestValue}
use Rattle.broker_state.specs.declared.config.Role.TheVariants.{Follower}
use Rattle.broker_state.specs.State.{ConfigValue, State}
use Rattle.broker_node.specs.Kinds.{kind}
use Rattle.broker_node.specs.Replies.{reply_to, reply}
use Rattle.broker_node.proofs.KeptStates.{Keeps, reply_keeps}
use Rattle.broker_laws.proofs.FollowersStay.{produce_refused, commit_refused, forget_refused, id_refused}
use Rattle.cleaning_laws.specs.Logs.{Logs}
use Rattle.cleaning_laws.specs.Alike.{AreAlike}
use Rattle.cleaning_laws.specs.Settled.{IsWithin, MayTrim}
use Rattle.cleaning_laws.specs.Cleans.{is_clean, is_no_clean}
use Rattle.cleaning_laws.proofs.Asked.Asked.{delivers, imports, imports_delta, trims, other}
use Rattle.cleaning_laws.proofs.Asked.{Asked, asked, IsAsked, is_asked}
use Rattle.cleaning_laws.proofs.BothAppend.{known_same}
use Rattle.cleaning_laws.proofs.DeliverAlike.{deliver_keeps}
use Rattle.cleaning_laws.proofs.ImportDeltaAlike.{import_delta_keeps}
use Rattle.cleaning_laws.proofs.TrimAlike.{trim_keeps}
use Rattle.cleaning_laws.proofs.RepliesAlike.{not_imported, not_false}

-- all other requests but a Clean leave a follower as it is
other_stays : (s : State) (n : ℤ) (body : BodyValue) → asked body ≡ other → s.config.role ≡ Follower → is_clean body ≡ false → Keeps (λ m. m ≡ s) ((kind body).way s n)
other_stays s n body e follows no_clean = grind (arith, e, follows, no_clean, produce_refused, commit_refused, forget_refused, id_refused)

module _ (logs : Logs) (s z : State) (n : ℤ) where
  -- the states after are alike
  abbrev KeptAlike : BodyValue → Type 0
  KeptAlike body = AreAlike logs (reply_to s n body).1 (reply_to z n body).1

  both_same : (m o : State) → AreAlike logs s z → m ≡ s → o ≡ z → AreAlike logs m o
  both_same m o alike one two = subst (λ (x : State). AreAlike logs x o) (sym one) (subst (λ (x : State). AreAlike logs s x) (sym two) alike)

  kept_alike : (body : BodyValue) → AreAlike logs s z → s.config.role ≡ Follower → IsWithin s logs body → MayTrim s body → MayTrim z body → is_clean body ≡ false → KeptAlike body
  kept_alike body alike follows within may other_may no_clean = by (asked body) (is_asked body) within may other_may
    where
      by : (a : Asked) → IsAsked a body → IsWithin s logs body → MayTrim s body → MayTrim z body → KeptAlike body
      by (delivers q) is within may other_may =
          let in_logs = subst (IsWithin s logs) is within in
          subst KeptAlike (sym is) (deliver_keeps logs s z q in_logs.0 in_logs.1 alike).1
      by (imports q) is within may other_may =
          let none = (subst (IsWithin s logs) is within).1 in
          subst KeptAlike (sym is) (both_same _ _ alike (not_imported s q none) (not_imported z q (sym (known_same logs s z q.topic q.partition alike) ∙ none)))
      by (imports_delta q) is within may other_may =
          let in_logs = subst (IsWithin s logs) is within in
          subst KeptAlike (sym is) (import_delta_keeps logs s z q in_logs.0 in_logs.1 alike).1
      by (trims q) is within may other_may =
          subst KeptAlike (sym is) (trim_keeps logs s z q (subst (MayTrim s) is may) (subst (MayTrim z) is other_may) alike).1
      by other is within may other_may =
          both_same _ _ alike
          (reply_keeps (λ (m : State). m ≡ s) ((kind body).way s n) (other_stays s n body is follows no_clean))
          (reply_keeps (λ (m : State). m ≡ z) ((kind body).way z n) (other_stays z n body is (ap (λ (g : ConfigValue). g.role) (sym alike.config) ∙ follows) no_clean))

pub follower_alike : (logs : Logs) (s z : State) (q : RequestValue) → AreAlike logs s z → s.config.role ≡ Follower → IsWithin s logs q.body → MayTrim s q.body → MayTrim z q.body → is_no_clean q ≡ true
    → AreAlike logs (reply s q).1 (reply z q).1
follower_alike logs s z q alike follows within may other_may no_clean = kept_alike logs s z q.correlation q.body alike follows within may other_may (not_false (is_clean q.body) no_clean)
