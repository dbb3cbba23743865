-- Topics that are answered entry by entry fit their fields where each answer does: names and counts are those of the request,
-- and the answers have at most four times as many bytes, but for what is counted apart.
--
-- A further request of entries joins by one lemma: of an entry whose fields fit, of a topic whose name does, answered in a state with
-- the invariant, the answer's fields fit, and its encoding has at most four times as many bytes and `extra`; `topics_fit` gives the rest.
use Rattle.std.proofs.Common.{◌≡◌, ℕ, ◌+◌, ◌*◌, ◌≤◌, List, [], ◌∷◌, length, refl, sym, ap, subst, ◌∙◌, arith}
use Rattle.std.specs.Prelude.{map}
use Rattle.std.specs.List.{flat_map, AllByRecursion}
use Rattle.std.proofs.lemmas.List.{length-map}
use Rattle.std.proofs.lemmas.List.Folds.{flat_map-map}
use Rattle.frame_fields.specs.Fields.{size16, size32, Fields, Value, FitsLength, Fits, ElementsFit, encoded}
use Rattle.frame_fields.specs.Types.{TopicOf, topic, topic_request}
use Rattle.responses.specs.Responses.{topic_values}
use Rattle.answering.specs.Plans.{AnswersTopic, AnswersTopics}
use Rattle.broker_laws.proofs.Said.{IsSaid, said_name, said_entries, topic_length}
use Rattle.broker_laws.proofs.Followed.{Paired, paired_length, paired_second, paired_weaker, followed, total, none_in_all, grown}

-- where nothing is counted apart
pub none_apart : {R : Type 0} (rs : List (TopicOf R)) → total (λ t. total (λ (r : R). 0) t.entries) rs ≡ 0
none_apart [] = refl
none_apart (t ∷ ts) = omega (arith, none_in_all t.entries, none_apart ts)

module _ {R : Type 0} (P Q : Fields) (g : R → Value Q) (extra : R → ℕ) where
  -- what an answer to an entry has
  pub record EntryFits (e : Value P) (r : R) : Type 0 where
    pub fits : Fits Q (g r)
    pub size : length (encoded Q (g r)) ≤ 4 * length (encoded P e) + extra r

  abbrev pub value_of : TopicOf R → Value (topic Q)
  value_of t = (t.name, (map g t.entries, tt))

  abbrev pub extra_of : TopicOf R → ℕ
  extra_of t = total extra t.entries

  -- what an answer to a topic has
  pub record TopicFits (t : Value (topic P)) (r : TopicOf R) : Type 0 where
    pub fits : Fits (topic Q) (value_of r)
    pub size : length (encoded (topic Q) (value_of r)) ≤ 4 * length (encoded (topic P) t) + extra_of r

  all_mapped : (rs : List R) → AllByRecursion (λ r. Fits Q (g r)) rs → AllByRecursion (Fits Q) (map g rs)
  all_mapped [] all = tt
  all_mapped (r ∷ rs) all = (all.0, all_mapped rs all.1)

  topic_fits : (t : Value (topic P)) (r : TopicOf R) → Fits (topic P) t → r.name ≡ t.0 → Paired EntryFits t.1.0 r.entries → TopicFits t r
  unfolding Fits
  topic_fits t r fits name all = record {
    fits = (
      subst (λ (n : List ℕ). FitsLength size16 (length n)) (sym name) fits.0,
      (
        (
          subst (λ (n : ℕ). FitsLength size32 n) (sym (length-map r.entries g ∙ paired_length EntryFits t.1.0 r.entries all)) fits.1.0.0,
          all_mapped r.entries (paired_second EntryFits (λ r. Fits Q (g r)) (λ e r one. one.fits) t.1.0 r.entries all),
        ),
        tt,
      ),
    );
    size =
        let more : length (flat_map (λ r. encoded Q (g r)) r.entries) ≤ 4 * length (flat_map (encoded P) t.1.0) + total extra r.entries =
        grown (encoded P) (λ r. encoded Q (g r)) extra t.1.0 r.entries (paired_weaker EntryFits (λ e r. length (encoded Q (g r)) ≤ 4 * length (encoded P e) + extra r) (λ e r one. one.size) t.1.0 r.entries all) in
        let mapped : length (flat_map (encoded Q) (map g r.entries)) ≡ length (flat_map (λ r. encoded Q (g r)) r.entries) = ap length (flat_map-map (encoded Q) g r.entries) in
        let same : length r.name ≡ length t.0 = ap length name in
        omega (arith, more, mapped, same, topic_length P t, topic_length Q (value_of r));
  }

  module _ {E S : Type 0} (f : Value P → E) (A : S → List ℕ → E → R → S → Type 0) (I : S → Type 0)
      (step : (s : S) (name : List ℕ) (e : Value P) (r : R) (m : S) → I s → FitsLength size16 (length name) → IsSaid P e → A s name (f e) r m → EntryFits e r × I m) where
    one_topic : (s : S) (t : Value (topic P)) (r : TopicOf R) (m : S) → I s → IsSaid (topic P) t → AnswersTopic A s (topic_request P f t) r m → TopicFits t r × I m
    one_topic s t r m i said answers =
        let all = followed f (λ s e y m. A s t.0 e y m) I (IsSaid P) EntryFits (λ s e r m i. step s t.0 e r m i (said_name P t said)) s t.1.0 r.entries m i (said_entries P t said) answers.1 in
        (topic_fits t r said.fits answers.0 all.0, all.1)

    pub topics_fit : (s last : S) (ts : List (Value (topic P))) (rs : List (TopicOf R)) → I s → FitsLength size32 (length ts) → AllByRecursion (IsSaid (topic P)) ts → AnswersTopics A s (map (topic_request P f) ts) rs last
        → (ElementsFit (Fits (topic Q)) (topic_values Q g rs) × (length (flat_map (encoded (topic Q)) (topic_values Q g rs)) ≤ 4 * length (flat_map (encoded (topic P)) ts) + total extra_of rs)) × I last
    topics_fit s last ts rs i count said answers =
        let all = followed (topic_request P f) (AnswersTopic A) I (IsSaid (topic P)) TopicFits one_topic s ts rs last i said answers in
        let more : length (flat_map (λ r. encoded (topic Q) (value_of r)) rs) ≤ 4 * length (flat_map (encoded (topic P)) ts) + total extra_of rs =
        grown (encoded (topic P)) (λ r. encoded (topic Q) (value_of r)) extra_of ts rs (paired_weaker TopicFits (λ t r. length (encoded (topic Q) (value_of r)) ≤ 4 * length (encoded (topic P) t) + extra_of r) (λ t r one. one.size) ts rs all.0) in
        let mapped : length (flat_map (encoded (topic Q)) (topic_values Q g rs)) ≡ length (flat_map (λ r. encoded (topic Q) (value_of r)) rs) = ap length (flat_map-map (encoded (topic Q)) value_of rs) in (
          (
            (subst (λ (n : ℕ). FitsLength size32 n) (sym (length-map rs value_of ∙ paired_length TopicFits ts rs all.0)) count, topics_mapped rs (paired_second TopicFits (λ r. Fits (topic Q) (value_of r)) (λ t r one. one.fits) ts rs all.0)),
            omega (arith, more, mapped),
          ),
          all.1,
        )
      where
        topics_mapped : (rs : List (TopicOf R)) → AllByRecursion (λ r. Fits (topic Q) (value_of r)) rs → AllByRecursion (Fits (topic Q)) (topic_values Q g rs)
        topics_mapped [] all = tt
        topics_mapped (r ∷ rs) all = (all.0, topics_mapped rs all.1)
