-- `attentions::valid` meets its contract. Assumes nothing.
use Rattle.std.proofs.Common.{Bor, ℕ, rules, ◌≡◌, ◌∙◌, true, length, refl, tests, ap}
use Rattle.std.proofs.lemmas.Fn.{fold_over, fronts, slice_gives}
use Rattle.rights.specs.Attentions.{attentions_ok, each_ok}
use Rattle.attentions.proofs.SendingLaws.{each_more}
use Rattle.attentions.proofs.valid.Goals as goal

pub returns : goal.returns
unfolding attentions_ok each_ok
returns c =
    let all = c.iter.result.rest.now in
    let e : c.fold.result ≡ each_ok all =
    fold_over fronts (λ (y : Bor ℕ). y.now) _ (λ xs b. b ≡ each_ok xs) _ (λ xs old x new q j k. (each_more xs x.now old new j (search (rules, tests)), search (rules, tests)))
    c.iter.result all true c.fold.result (slice_gives c.iter.result) refl c.fold.ensures.ran in
    let n : length c.args.attentions.now ≡ 16 = search rules in
    let same : all ≡ c.args.attentions.now = search rules in
    e ∙ ap each_ok same ∙ rw n
