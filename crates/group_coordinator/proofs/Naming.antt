-- The id of a member, part by part.
use Rattle.std.proofs.Common.{◌≡◌, ℕ, List, [], ◌∷◌, ◌++◌, ◌∙◌, append_assoc}
use Rattle.group_coordinator.specs.Members.{client_name, hex, member_id}

pub id_made : (client : List ℕ) (start n : ℕ) (name s d a b c e f : List ℕ) → name ≡ client_name client → s ≡ hex 16 start → d ≡ hex 16 n → a ≡ name → b ≡ a ++ 45 ∷ [] → c ≡ b ++ s → e ≡ c ++ 45 ∷ [] → f ≡ e ++ d
    → f ≡ member_id client start n
id_made client start n name s d a b c e f named starts numbered first second third fourth fifth =
    fifth ∙ (λ i. fourth i ++ d) ∙ (λ i. (third i ++ 45 ∷ []) ++ d) ∙ (λ i. ((second i ++ s) ++ 45 ∷ []) ++ d) ∙ (λ i. (((first i ++ 45 ∷ []) ++ s) ++ 45 ∷ []) ++ d)
    ∙ append_assoc ((name ++ 45 ∷ []) ++ s) (45 ∷ []) d ∙ append_assoc (name ++ 45 ∷ []) s (45 ∷ d) ∙ append_assoc name (45 ∷ []) (s ++ 45 ∷ d)
    ∙ (λ i. named i ++ 45 ∷ (starts i ++ 45 ∷ numbered i))
