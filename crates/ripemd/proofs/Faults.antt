-- What is wrong with a state, case by case: the answer that the scope's table gives.
use Rattle.std.proofs.Common.{ℕ, ◌+◌, ◌^◌, ◌≤◌, ◌<◌, ◌≡◌, sym, ap, ◌∙◌, Bool, true, false, not, cond, length, drop, leb, eqb}
use Rattle.std.specs.List.{prefix_len}
use Rattle.std.proofs.lemmas.Bool.{le-leb, lt-leb}
use Rattle.words.specs.Words.{same_of}
use Rattle.compress.specs.Block.{used_of, initial_of}
use Rattle.ripemd.specs.State.{zeros, lowest_of, fault_of, index_of, answer_of, wrong_start}
use Rattle.ripemd.specs.Answers.{plain}
use Rattle.ripemd.specs.declared.State.{State}
use Rattle.ripemd.proofs.Lowest.{after, zeros_after, counted, none_left, some_left}
use Rattle.ripemd.proofs.Starts.{start_past, start_now}

module _ (s : State) where
  pub fill_fault : 64 ≤ s.fill → plain 60 ≡ answer_of s (fault_of s)
  unfolding fault_of index_of
  fill_fault h = rw (le-leb 64 s.fill h)

  module _ (f : s.fill < 64) where
    pub count_fault : leb (2 ^ 55) s.count.0 ≡ true → plain 61 ≡ answer_of s (fault_of s)
    unfolding fault_of index_of
    count_fault h = rw (lt-leb 64 s.fill f, h)

    module _ (c : leb (2 ^ 55) s.count.0 ≡ false) where
      pub tail_fault : zeros (after s.fill s.tail) ≡ false → (k : ℕ) → k ≡ prefix_len (λ x. eqb x 0) (after s.fill s.tail)
          → record { number = 62; index = s.fill + k } ≡ answer_of s (fault_of s)
      unfolding fault_of index_of lowest_of
      tail_fault z k e = rw (lt-leb 64 s.fill f, c, sym (zeros_after s.fill s.tail), z, counted s.fill s.tail k e)

      module _ (t : zeros (after s.fill s.tail) ≡ true) (u k : ℕ) (q : u ≡ used_of s.width) (e : k ≡ prefix_len (λ x. eqb x 0) (after u s.words)) where
        tail_right : zeros (drop s.fill s.tail) ≡ true
        tail_right = sym (zeros_after s.fill s.tail) ∙ t

        pub spare_fault : k < length (after u s.words) → record { number = 63; index = u + k } ≡ answer_of s (fault_of s)
        unfolding fault_of index_of lowest_of
        spare_fault h = rw (lt-leb 64 s.fill f, c, tail_right, sym q, some_left u s.words k e h, counted u s.words k e)

        module _ (w : length (after u s.words) ≤ k) where
          left : (b : Bool) → wrong_start s.width s.words s.count.0 ≡ b → plain (cond b 64 0) ≡ answer_of s (fault_of s)
          unfolding fault_of index_of
          left true h = rw (lt-leb 64 s.fill f, c, tail_right, sym q, none_left u s.words k e w, h)
          left false h = rw (lt-leb 64 s.fill f, c, tail_right, sym q, none_left u s.words k e w, h)

          pub start_fault : s.count.0 ≡ 0 → same_of s.words (initial_of s.width) ≡ false → plain 64 ≡ answer_of s (fault_of s)
          start_fault z n = left true (start_now s.width s.words s.count.0 z ∙ ap not n)

          pub no_block : s.count.0 ≡ 0 → same_of s.words (initial_of s.width) ≡ true → plain 0 ≡ answer_of s (fault_of s)
          no_block z n = left false (start_now s.width s.words s.count.0 z ∙ ap not n)

          pub some_block : (s.count.0 ≡ 0 → ⊥) → plain 0 ≡ answer_of s (fault_of s)
          some_block n = left false (start_past s.width s.words s.count.0 n)
