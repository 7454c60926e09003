use Rattle.nogood_store.proofs.nogoods.Nogoods.container.Goals as goal

pub returns : goal.returns
returns c = rw (← c.self.view_is, ← c.as_slice.ensures.value) c.first_container.ensures
