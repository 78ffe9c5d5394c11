-- The rule of an entry in two tests: its own numbers, and the entries that they name. Both together are the calculus's (proofs.Rules, `in_two`).
use Rattle.std.specs.Prelude.{Bool, ◌&&◌, cond, false, not, true, suc, zero, ℕ, eqb, ltb}
use Rattle.calculus.specs.Kinds.{many_pair_kind, many_list_kind}
use Rattle.calculus.specs.Table.{is_once_kind}
use Rattle.recipe_table.specs.declared.Entry.{Entry}

-- "p and q, where they name entries, are smaller than the entry's own number", here k; T-03, "a pair uses p and q, a list p with q = 0"
unfoldable pub names_test : ℕ → ℕ → ℕ → ℕ → Bool
names_test k zero p q = eqb p 0 && eqb q 0
names_test k (suc zero) p q = eqb p 0 && eqb q 0
names_test k (suc (suc zero)) p q = ltb p k && eqb q 0
names_test k (suc (suc (suc zero))) p q = ltb p k && ltb q k
names_test k (suc (suc (suc (suc zero)))) p q = ltb p k && ltb q k
names_test k (suc (suc (suc (suc (suc zero))))) p q = ltb p k && ltb q k
names_test k (suc (suc (suc (suc (suc (suc zero)))))) p q = ltb p k && ltb q k
names_test k (suc (suc (suc (suc (suc (suc (suc zero))))))) p q = ltb p k && eqb q 0
names_test k (suc (suc (suc (suc (suc (suc (suc (suc zero)))))))) p q = ltb p k && eqb q 0
names_test k (suc (suc (suc (suc (suc (suc (suc (suc (suc n))))))))) p q = false

-- "Multiplicity is many for all kinds but 3"; T-03: "5 and 7 of multiplicity once"
abbrev pub many_entry : Entry → Bool
many_entry x = not (is_once_kind x.kind)

-- T-03, "A many pair or list has only many contents": whether p's entry, and q's, is many
unfoldable pub contents_test : ℕ → Bool → Bool → Bool
contents_test kind m m' = cond (eqb kind many_pair_kind) (m && m') (cond (eqb kind many_list_kind) m true)
