-- Files with the same texts.
use Rattle.plan_num.proofs.Common.{◌≡◌, true, List, [], ◌∷◌, length, zip, refl, arith, list_all}
use Rattle.plan_num.proofs.Common.{bytes_eq, and_parts, and_from, Decides-eqb, bytes_eq-Decides}
use Rattle.giv_files.specs.declared.made.MadeFile.{MadeFile}
use Rattle.giv_files.proofs.Common.{ids_of}
use Rattle.planning_stages.specs.Verdicts.{same_texts}

each_own : (made : List MadeFile)
    → list_all (λ at. bytes_eq at.0.text at.1.text) (zip made made) ≡ true
each_own [] = refl
each_own (file ∷ made) = and_from _ _ ((bytes_eq-Decides file.text file.text).1 refl) (each_own made)

pub own_texts : (made : List MadeFile) → same_texts made made ≡ true
unfolding same_texts
own_texts made = and_from _ _ ((Decides-eqb (length made) (length made)).1 refl) (each_own made)

each_same : (made others : List MadeFile) → length made ≡ length others
    → list_all (λ at. bytes_eq at.0.text at.1.text) (zip made others) ≡ true
    → ids_of made ≡ ids_of others → made ≡ others
each_same [] [] long same ids = refl
each_same [] (other ∷ others) long same ids = absurd (omega (arith, long))
each_same (file ∷ made) [] long same ids = absurd (omega (arith, long))
each_same (file ∷ made) (other ∷ others) long same ids =
    let parts = and_parts _ _ same in
    let text : file.text ≡ other.text = (bytes_eq-Decides file.text other.text).0 parts.0 in
    let id : file.file ≡ other.file = cc in
    let more : ids_of made ≡ ids_of others = cc in
    let rest : made ≡ others = each_same made others (omega (arith, long)) parts.1 more in
    λ i. record { file = id i; text = text i } ∷ rest i

-- the same files with the same texts are the same
pub same_files : (made others : List MadeFile) → same_texts made others ≡ true
    → ids_of made ≡ ids_of others → made ≡ others
unfolding same_texts
same_files made others same ids = grind (arith, and_parts, each_same, Decides-eqb)
