-- Messages: what is read is the spelling of a message.
use Rattle.std.proofs.Common.{◌≡◌, ℕ, zero, suc, ◌-◌, ◌%◌, true, false, List, [], ◌∷◌, ◌++◌, get_or, Result, Ok, Err}
use Rattle.std.proofs.Common.{refl, sym, ap, ap₂, ◌∙◌, arith}
use Rattle.std.specs.Prelude.{slice_index, slice_index_or}
use Rattle.ov_wire.specs.declared.fault.WireFault.{WireFault}
use Rattle.ov_wire.specs.declared.message.Message.{Message}
use Rattle.ov_wire.specs.declared.message.Body.{Body}
use Rattle.ov_wire.specs.declared.message.Body.TheVariants.{Join, ForwardJoin, Joined, Neighbor, NeighborReply}
use Rattle.ov_wire.specs.declared.message.Body.TheVariants.{Disconnect, Shuffle, ShuffleReply, Gossip, IHave, Graft}
use Rattle.ov_wire.specs.declared.message.Body.TheVariants.{Prune}
use Rattle.ov_wire.specs.Fields.{Field, Value, One, AllFit}
use Rattle.ov_wire.specs.Messages.{kinds, fields_of, kind_of, own_values, Spelling, IsBodyInRange, AreInRange}
use Rattle.ov_wire.specs.Faults.{FirstFault}
use Rattle.ov_wire.specs.Code.Meaning.{number_in, list_in, body_in, message_with, message_in}
use Rattle.ov_wire.specs.Code.Reading.{values_at}
use Rattle.std.proofs.lemmas.List.{append-nil}
use Rattle.ov_wire.proofs.Steps.{apart}
use Rattle.ov_wire.proofs.Numbers.{IsBytes, wide8, wide16, wide32}
use Rattle.ov_wire.proofs.Faults.{AllSound, values_read, values_again, values_longer, values_fail, first_fails}

-- ---- the fields of each kind have sound widths

AreSound : List (List Field) → Type 0
AreSound [] = Unit {0}
AreSound (row ∷ rows) = AllSound row × AreSound rows

row_sound : (rows : List (List Field)) → AreSound rows → (i : ℕ) → AllSound (get_or rows i [])
unfolding AreSound
row_sound [] sound i = tt
row_sound (row ∷ rows) sound zero = sound.0
row_sound (row ∷ rows) sound (suc i) = row_sound rows sound.1 i

kinds_sound : AreSound kinds
unfolding AreSound
kinds_sound = (
  tt,
  (
    (wide32, (wide8, tt)),
    (
      tt,
      (
        (wide8, tt),
        (
          (wide8, tt),
          (
            tt,
            (
              (wide32, (wide8, (tt, tt))),
              (
                (tt, tt),
                ((wide32, (wide32, (wide16, (tt, tt)))), ((wide32, (wide32, tt)), ((wide32, (wide32, tt)), (tt, tt)))),
              ),
            ),
          ),
        ),
      ),
    ),
  ),
)

pub sound : (kind : ℕ) → AllSound (fields_of kind)
sound kind = (wide8, (wide8, (wide32, row_sound kinds kinds_sound (kind - 1))))

-- ---- the values of a message, and the message of values

abbrev pub values_of : Message → List Value
values_of m = One 1 ∷ One (kind_of m.body) ∷ One m.from ∷ own_values m.body

body_again : (b : Body) → body_in (kind_of b) (own_values b) ≡ b
unfolding number_in list_in body_in
body_again Join = refl
body_again (ForwardJoin node ttl) = refl
body_again Joined = refl
body_again (Neighbor true) = refl
body_again (Neighbor false) = refl
body_again (NeighborReply true) = refl
body_again (NeighborReply false) = refl
body_again Disconnect = refl
body_again (Shuffle origin ttl ids) = refl
body_again (ShuffleReply ids) = refl
body_again (Gossip id round payload) = refl
body_again (IHave id) = refl
body_again (Graft id) = refl
body_again Prune = refl

same_message : (m n : Message) → values_of m ≡ values_of n → m ≡ n
same_message m n e =
    let kinds_are : kind_of m.body ≡ kind_of n.body = cc in
    let values_are : own_values m.body ≡ own_values n.body = cc in
    let from_are : m.from ≡ n.from = cc in
    let bodies : m.body ≡ n.body = sym (body_again m.body) ∙ ap₂ body_in kinds_are values_are ∙ body_again n.body in
    let made : ℕ → Body → Message = λ f b. record { from = f; body = b } in
    ap₂ made from_are bodies

-- ---- the second byte of a spelling is its kind

kind_read : (m : Message) (bytes more : List ℕ) → Spelling m bytes → slice_index (bytes ++ more) 1 ≡ kind_of m.body
kind_read m bytes more s =
    let small : kind_of m.body % 256 ≡ kind_of m.body = omega (arith, s.fit.1.0) in
    ap (λ (x : List ℕ). slice_index (x ++ more) 1) s.bytes_are ∙ small

pub read_again : (m : Message) (bytes : List ℕ)
    → Spelling m bytes → values_at (fields_of (slice_index bytes 1)) bytes ≡ Ok (values_of m)
read_again m bytes s =
    let is : slice_index bytes 1 ≡ kind_of m.body =
    ap (λ (x : List ℕ). slice_index x 1) (sym (append-nil bytes)) ∙ kind_read m bytes [] s in
    ap (λ (k : ℕ). values_at (fields_of k) bytes) is
    ∙ values_again (fields_of (kind_of m.body)) (sound (kind_of m.body)) bytes (values_of m) s

-- the meaning of a spelling is its message
pub means : (m : Message) (bytes : List ℕ) → Spelling m bytes → message_in bytes ≡ m
unfolding message_with number_in
means m bytes s =
    ap message_with (read_again m bytes s) ∙ ap (λ (b : Body). record { from = m.from; body = b }) (body_again m.body)

pub is_spelled : (m : Message) (bytes : List ℕ) → IsBytes bytes → kind_of m.body ≡ slice_index bytes 1
    → values_at (fields_of (slice_index bytes 1)) bytes ≡ Ok (values_of m) → Spelling m bytes
is_spelled m bytes fits is e =
    values_read (fields_of (kind_of m.body)) (sound (kind_of m.body)) bytes (values_of m) fits
    (ap (λ (k : ℕ). values_at (fields_of k) bytes) is ∙ e)

body_in_range : (b : Body) → AllFit (slice_index_or kinds (kind_of b - 1) []) (own_values b) → IsBodyInRange b
body_in_range Join fit = tt
body_in_range (ForwardJoin node ttl) fit = fit.1.0.2
body_in_range Joined fit = tt
body_in_range (Neighbor high) fit = tt
body_in_range (NeighborReply accepted) fit = tt
body_in_range Disconnect fit = tt
body_in_range (Shuffle origin ttl ids) fit = (fit.1.0.2, fit.1.1.0.0)
body_in_range (ShuffleReply ids) fit = fit.0.0
body_in_range (Gossip id round payload) fit = fit.1.1.1.0.0
body_in_range (IHave id) fit = tt
body_in_range (Graft id) fit = tt
body_in_range Prune fit = tt

pub in_range : (m : Message) (bytes : List ℕ) → Spelling m bytes → AreInRange m
in_range m bytes s = body_in_range m.body s.fit.1.1.1

-- ---- the theorems

pub ok_same : {A : Type 0} (r : Result A WireFault) (x y : A) → r ≡ Ok x → r ≡ Ok y → x ≡ y
ok_same r x y e f = cc

pub spelled_once : (m : Message) (a b : List ℕ) → Spelling m a → Spelling m b → a ≡ b
spelled_once m a b s t = s.bytes_are ∙ sym t.bytes_are

pub read_once : (m n : Message) (bytes : List ℕ) → Spelling m bytes → Spelling n bytes → m ≡ n
read_once m n bytes s t =
    same_message m n (ok_same (values_at (fields_of (slice_index bytes 1)) bytes) (values_of m) (values_of n)
    (read_again m bytes s) (read_again n bytes t))

pub begins_no_other : (m n : Message) (a more : List ℕ) → Spelling m a → Spelling n (a ++ more) → more ≡ []
begins_no_other m n a [] s t = refl
begins_no_other m n a (b ∷ more) s t =
    let is = kind_read m a (b ∷ more) s in
    let longer = values_longer (fields_of (kind_of m.body)) (sound (kind_of m.body)) a (values_of m) b more s in
    let again = read_again n (a ++ b ∷ more) t in
    absurd (apart (sym again ∙ ap (λ (k : ℕ). values_at (fields_of k) (a ++ b ∷ more)) is ∙ longer))

pub one_first : (bytes : List ℕ) (f g : WireFault) → FirstFault bytes f → FirstFault bytes g → f ≡ g
one_first bytes f g p q =
    let k = slice_index bytes 1 in
    let a = first_fails (fields_of k) (sound k) bytes f p in
    let b = first_fails (fields_of k) (sound k) bytes g q in
    cc

pub not_both : (m : Message) (bytes : List ℕ) (f : WireFault) → Spelling m bytes → FirstFault bytes f → ⊥
not_both m bytes f s p =
    let k = slice_index bytes 1 in
    apart (sym (read_again m bytes s) ∙ first_fails (fields_of k) (sound k) bytes f p)

pub is_first : (bytes : List ℕ) (f : WireFault)
    → IsBytes bytes → values_at (fields_of (slice_index bytes 1)) bytes ≡ Err f → FirstFault bytes f
is_first bytes f fits e = let k = slice_index bytes 1 in values_fail (fields_of k) (sound k) bytes f fits e
