-- What is known of a result, of which more follows.
use Rattle.std.specs.Prelude.{Result, Ok, Err, OnOk, IfOk}

pub on_ok : {X E : Type 0} (r : Result X E) (P Q : Type 0) → OnOk r P → (P → Q) → OnOk r Q
on_ok (Ok x) P Q p f = f p
on_ok (Err e) P Q p f = tt

pub if_any : {X E : Type 0} (r : Result X E) (P : X → Type 0) → ((x : X) → P x) → IfOk r P
if_any (Ok x) P f = f x
if_any (Err e) P f = tt

pub if_ok : {X E : Type 0} (r : Result X E) (P Q : X → Type 0) → IfOk r P → ((x : X) → P x → Q x) → IfOk r Q
if_ok (Ok x) P Q p f = f x p
if_ok (Err e) P Q p f = tt

pub if_both : {X E : Type 0} (r : Result X E) (P Q R : X → Type 0) → IfOk r P → IfOk r Q → ((x : X) → P x → Q x → R x) → IfOk r R
if_both (Ok x) P Q R p q f = f x p q
if_both (Err e) P Q R p q f = tt
