use Rattle.plan_num.proofs.Common.{◌≡◌, true, ℕ, List, ◌++◌, IfSome, ap, sym, subst, ◌∙◌, take}
use Rattle.plan_num.proofs.Common.{get_or, flat_map}
use Rattle.giv_files.specs.declared.key.Key.{Key}
use Rattle.giv_files.specs.declared.key.Key.TheVariants.{LastStage}
use Rattle.giv_files.specs.Keys.{allows}
use Rattle.giv_files.specs.Settings.{value_of}
use Rattle.giv_files.specs.SettingsText.{key_line}
use Rattle.giv_files.proofs.SettingsTold.{all_lines, one_key_more, text_tells, value_fits}
use Rattle.giv_files.proofs.settings.Settings.text.Goals as goal

pub loop-key-init : goal.loop-key-init
loop-key-init c = c.new-bytes.ensures.items

pub push_line-requires : goal.push_line-requires
push_line-requires c =
    let key = get_or c.all-key-items.result.now c.loop-key.key-index LastStage in
    subst (λ found. IfSome found (λ value. allows key value ≡ true)) (sym c.value.ensures)
    (value_fits c.args.self.now key c.requires.allowed)

pub loop-key-preserved : goal.loop-key-preserved
loop-key-preserved c =
    let line : Key → List ℕ = λ key. key_line key (value_of c.args.self.now key) in
    let keys = c.all-key-items.result.now in
    let key = get_or keys c.loop-key.key-index LastStage in
    c.in_ok-push_line.ensures
    ∙ ap (λ front. front ++ key_line key c.value.result) c.loop-key.invariant
    ∙ ap (λ found. flat_map line (take c.loop-key.key-index keys) ++ key_line key found) c.value.ensures
    ∙ sym (one_key_more line keys c.loop-key.key-index LastStage c.loop-key-test.true)

text_is : goal.returns-clause-text
text_is c =
    c.from_vec.ensures
    ∙ all_lines c.args.self.now c.all-key-items.result.now c.loop-key.key-index c.loop-key.bytes.items
    c.all-key-items.ensures c.loop-key-test.false c.loop-key.invariant

pub returns-clause-text : goal.returns-clause-text
returns-clause-text c = text_is c

pub returns-clause-tells : goal.returns-clause-tells
returns-clause-tells c = text_tells c.args.self.now c.from_vec.result (text_is c)
