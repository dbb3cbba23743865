-- Topics that are read from arguments, one after the other.
use Rattle.std.proofs.Common.{◌≡◌, ℕ, suc, ◌+◌, ◌<◌, List, [], ◌∷◌, ◌++◌, length, map, take, get_or, ap, subst, sym, ◌∙◌, arith}
use Prim.Native.Nat.{zero}
use Rattle.std.proofs.lemmas.List.{take_more, map-append}
use Rattle.std.specs.Prelude.{IfErr, IsErrAnd, Result, Ok, Err}
use Rattle.std.specs.Borrow.{Bor}
use Rattle.clap.specs.Words.{Text}
use Rattle.std.specs.String.{string_bytes}
use Rattle.broker_state.specs.ConfigValues.{topic_config}
use Rattle.broker_state.specs.declared.config.TopicConfig as declared
use Rattle.broker_state.specs.State.{TopicConfig}
use Rattle.tcp_edge.specs.declared.asked.ArgumentsFault.{ArgumentsFault}
use Rattle.tcp_edge.specs.declared.asked.ArgumentsFault.TheVariants.{Clap, Address, Kept, Cleaning, Topic}
use Rattle.tcp_edge.specs.Asked.{IsConfigFault}
use Rattle.tcp_edge.specs.CommandLine.{IsTextAndNumber, IsTopic, AddsTopic, AreTopics, HasTopics}

behind : (words : List Text) (word : Text) (ts : List TopicConfig) (t : TopicConfig) → AreTopics words ts → IsTopic word t
    → AreTopics (words ++ word ∷ []) (ts ++ t ∷ [])
behind [] word [] t are is = (is, tt)
behind [] word (x ∷ ts) t are is = absurd are
behind (w ∷ words) word [] t are is = absurd are
behind (w ∷ words) word (x ∷ ts) t are is = (are.0, behind words word ts t are.1 is)

pub one_pushed : {A : Type 0} (ts ts' : List (declared.TopicConfig A)) (t : declared.TopicConfig A) (name : Text) → ts' ≡ ts ++ t ∷ []
    → string_bytes t.name ≡ name → map topic_config ts' ≡ map topic_config ts ++ record { name = name; partitions = t.partitions } ∷ []
one_pushed ts ts' t name is named =
    ap (map topic_config) is ∙ (map-append topic_config ts (t ∷ [])
    ∙ ap (λ (n : Text). map topic_config ts ++ record { name = n; partitions = t.partitions } ∷ []) named)

-- one argument more, and its topic
pub one_topic_more : (words : List (Bor Text)) (i : ℕ) (d : Bor Text) (ts ts' : List TopicConfig) → i < length words
    → AreTopics (map (λ (w : Bor Text). w.now) (take i words)) ts → AddsTopic (get_or words i d).now ts ts'
    → AreTopics (map (λ (w : Bor Text). w.now) (take (i + 1) words)) ts'
one_topic_more words i d ts ts' lt are adds =
    let front : map (λ (w : Bor Text). w.now) (take (i + 1) words) ≡ map (λ (w : Bor Text). w.now) (take i words) ++ (get_or words i d).now ∷ [] =
    rw (take_more words i d lt) (map-append (λ (w : Bor Text). w.now) (take i words) (get_or words i d ∷ [])) in
    rw (front, adds.2) (behind _ (get_or words i d).now ts adds.0 are adds.1)

-- ---- faults that are handed on

pub err_is : {V E : Type 0} (r : Result V E) (P : E → Type 0) (e : E) → IsErrAnd r (λ x. x ≡ e) → P e → IfErr r P
err_is (Ok v) P e is holds = tt
err_is (Err f) P e is holds = subst P (sym is) holds

-- ---- a word that is no topic

only_topic : (word : Text) (ts : List TopicConfig) → AreTopics (word ∷ []) ts → (t : TopicConfig) × IsTopic word t
only_topic word [] are = absurd are
only_topic word (t ∷ ts) are = (t, are.0)

topic_of : (words : List (Bor Text)) (i : ℕ) (d : Bor Text) (ts : List TopicConfig) → i < length words
    → AreTopics (map (λ (w : Bor Text). w.now) words) ts → HasTopics ((get_or words i d).now ∷ [])
topic_of [] i d ts lt are = absurd (omega (arith, lt))
topic_of (w ∷ words) i d [] lt are = absurd are
topic_of (w ∷ words) zero d (t ∷ ts) lt are = (t ∷ [], (are.0, tt))
topic_of (w ∷ words) (suc i) d (t ∷ ts) lt are = topic_of words i d ts (omega (arith, lt)) are.1

-- where one word is none, not all are topics
pub bad_word : (words : List (Bor Text)) (i : ℕ) (d : Bor Text) (fault : ArgumentsFault) → i < length words
    → IsConfigFault ((get_or words i d).now ∷ []) fault → IsConfigFault (map (λ (w : Bor Text). w.now) words) fault
bad_word words i d (Clap error) lt is = is
bad_word words i d (Address why) lt is = is
bad_word words i d (Kept why) lt is = is
bad_word words i d (Cleaning why) lt is = is
bad_word words i d (Topic why) lt is = λ has. is (topic_of words i d has.0 lt has.1)

-- and none where the word is no text and number
pub no_topic : (word : Text) → ((text : Text) (n : ℕ) → ¬ IsTextAndNumber 32 word text n) → ¬ HasTopics (word ∷ [])
no_topic word none has = let t = only_topic word has.0 has.1 in none t.0.name t.0.partitions t.1
