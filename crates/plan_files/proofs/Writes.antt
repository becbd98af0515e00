-- Writes, one after the other, and what they leave under a name.
use Rattle.plan_num.proofs.Common.{◌≡◌, ℕ, List, [], ◌∷◌, ◌++◌, ◌+◌, ◌<◌, length, take, get_or, ◌∙◌}
use Rattle.plan_num.proofs.Common.{refl, sym, ap, cond, nat_eq, take_more, pointwise, slice_cmp}
use Rattle.plan_num.proofs.Common.{nat_cmp, eq_by_cmp, nat_list_cmp_total, bytes_eq}
use Rattle.plan_num.proofs.Common.{is_eq-slice_cmp}
use Rattle.std.specs.Cmp.Lexicographic.{texts_ties}
use Rattle.std.proofs.lemmas.Cmp.{eq_by_cmp_equiv}
use Rattle.std.specs.FinMap as map
use Rattle.plan_files.specs.declared.write.Write.{Write}
use Rattle.plan_files.specs.declared.write.Write.TheVariants.{Put, Removal}
use Rattle.plan_files.specs.Folder.{Folder}
use Rattle.plan_files.specs.Changes.{after_write, folder_after, folder_of, write_name, left_by}

-- the newest write comes on top of the others
pub folder_after_push : (writes : List Write) (write : Write) (folder : Folder)
    → folder_after (writes ++ write ∷ []) folder ≡ after_write write (folder_after writes folder)
folder_after_push [] write folder = refl
folder_after_push (w ∷ writes) write folder = folder_after_push writes write (after_write w folder)

-- the order of names ties only equal names
same_name : (name other : List ℕ)
    → eq_by_cmp (slice_cmp nat_cmp) name other ≡ pointwise nat_eq other name
same_name name other =
    (eq_by_cmp_equiv nat_list_cmp_total).symm name other ∙ sym (texts_ties other name)

-- after a write its name has what it leaves, and any other name what it had
pub get_after_write : (write : Write) (folder : Folder) (name : List ℕ)
    → map.get (after_write write folder) name
    ≡ cond (pointwise nat_eq (write_name write) name) (left_by write) (map.get folder name)
get_after_write (Put other bytes) folder name =
    map.get-insert nat_list_cmp_total folder other bytes name
    ∙ ap (λ b. cond b (left_by (Put other bytes)) (map.get folder name)) (same_name name other)
get_after_write (Removal other) folder name =
    map.get-remove nat_list_cmp_total folder other name
    ∙ ap (λ b. cond b (left_by (Removal other)) (map.get folder name)) (same_name name other)

-- the same, as names are compared
pub get_written : (write : Write) (folder : Folder) (name : List ℕ)
    → map.get (after_write write folder) name
    ≡ cond (bytes_eq name (write_name write)) (left_by write) (map.get folder name)
get_written (Put other bytes) folder name =
    map.get-insert nat_list_cmp_total folder other bytes name
    ∙ ap (λ b. cond b (left_by (Put other bytes)) (map.get folder name))
    (is_eq-slice_cmp name other)
get_written (Removal other) folder name =
    map.get-remove nat_list_cmp_total folder other name
    ∙ ap (λ b. cond b (left_by (Removal other)) (map.get folder name)) (is_eq-slice_cmp name other)

-- writes, and then others
pub folder_after_both : (writes more : List Write) (folder : Folder)
    → folder_after (writes ++ more) folder ≡ folder_after more (folder_after writes folder)
folder_after_both [] more folder = refl
folder_after_both (write ∷ writes) more folder =
    folder_after_both writes more (after_write write folder)

-- one write more
pub get_next_write : (writes : List Write) (i : ℕ) (write : Write) (name : List ℕ)
    → i < length writes → write ≡ get_or writes i write
    → map.get (folder_of (take (i + 1) writes)) name
    ≡ cond (pointwise nat_eq (write_name write) name) (left_by write)
    (map.get (folder_of (take i writes)) name)
get_next_write writes i write name inside is =
    ap (λ xs. map.get (folder_of xs) name)
    (take_more writes i write inside ∙ ap (λ w. take i writes ++ w ∷ []) (sym is))
    ∙ ap (λ folder. map.get folder name) (folder_after_push (take i writes) write map.empty)
    ∙ get_after_write write (folder_of (take i writes)) name
