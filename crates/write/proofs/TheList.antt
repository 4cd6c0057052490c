-- THE list of the given names: `list_of` is increasing and has exactly the set of names, and no other list is so. Assumes nothing.
use Rattle.rules.proofs.Prelude.{◌≡◌, List, ℕ, arith}
use Rattle.source.specs.declared.Source.TheVariants as source
use Rattle.source.specs.Names.{name_of, count_of}
use Rattle.sets.specs.Sets.{In, Increasing}
use Rattle.sets.proofs.Laws.{only_one, collect_increasing, in_collect, collect_in}
use Rattle.pick.specs.Pick as pick
use Rattle.fill.specs.Steps.{list_of}
use Rattle.write.specs.Meaning.{Named, TheList}

module _ (run ends : List ℕ) where
  list_increasing : Increasing (list_of run ends)
  unfolding pick.list_of
  list_increasing = collect_increasing (name_of run ends source.Ends) 0 (count_of ends source.Ends)

  list_given : (x : List ℕ) → In x (list_of run ends) → Named run ends x
  unfolding pick.list_of name_of count_of
  list_given x h =
      let w = in_collect (name_of run ends source.Ends) 0 (count_of ends source.Ends) x h in
      record { number = w.number; is_name = omega (arith, w.high); is = w.name_is }

  list_all : (x : List ℕ) → Named run ends x → In x (list_of run ends)
  unfolding pick.list_of name_of count_of
  list_all x n = rw n.is at (collect_in (name_of run ends source.Ends) 0 (count_of ends source.Ends) n.number (omega arith) (omega (arith, n.is_name)))

  -- THE THEOREMS
  pub the_list : TheList run ends (list_of run ends)
  the_list = record { increasing = list_increasing; given = list_given; all = list_all }

-- two inputs with the same set have the same list; so there is only one
pub same_list : {run ends run' ends' : List ℕ} {xs ys : List (List ℕ)} → TheList run ends xs → TheList run' ends' ys
    → ((x : List ℕ) → Named run ends x → Named run' ends' x)
    → ((x : List ℕ) → Named run' ends' x → Named run ends x) → xs ≡ ys
same_list {xs = xs} {ys = ys} p q to from =
    only_one xs ys p.increasing q.increasing (record {
      to = λ z h. q.all z (to z (p.given z h));
      from = λ z h. p.all z (from z (q.given z h));
    })

pub only_list : {run ends : List ℕ} {names : List (List ℕ)} → TheList run ends names → names ≡ list_of run ends
only_list {run} {ends} p = same_list p (the_list run ends) (λ x n. n) (λ x n. n)
